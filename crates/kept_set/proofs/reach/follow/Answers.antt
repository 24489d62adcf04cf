use Rattle.std.proofs.Common.{◌<◌, length, get_or, refl, ◌∙◌, sym, arith}
use Rattle.std.proofs.lemmas.Result.{on_ok_weaker}
use Rattle.kept_set.specs.Worklist.{unseen}
use Rattle.kept_set.proofs.Marks.{none_of, others_fit, none_marked, IsMarked, now_marked}
use Rattle.kept_set.proofs.Steps.{followed_none, followed_some}
use Rattle.kept_set.proofs.reach.follow.Goals as goal

pub returns-in_default-clause-followed : goal.returns-in_default-clause-followed
returns-in_default-clause-followed c =
    let made = c.args.made.now in
    let marks = c.args.seen.now.items in
    followed_none c.args.name (unseen made marks) _
    (none_of c.args.name made marks (others_fit c.args.name made c.in_default.field-0 c.in_default.ensures.fits))

pub returns-then-index-clause-followed : goal.returns-then-index-clause-followed
returns-then-index-clause-followed c =
    let made = c.args.made.now in
    let marks = c.args.seen.now.items in
    let range = c.in-Ok.ensures.in_range in
    let same = c.requires.marks in
    let within : c.in-Ok.at < length marks = omega (arith, range, same) in
    followed_none c.args.name (unseen made marks) _
    (none_marked c.args.name made marks c.in-Ok.at c.index.result.now c.requires.ascends c.in-Ok.ensures.stands within (sym c.index.ensures ∙ c.if-index.true))

pub returns-clause-followed : goal.returns-clause-followed
returns-clause-followed c =
    let made = c.args.made.now in
    let marks = c.args.seen.now.items in
    let entry = c.index-made-at.result in
    let range = c.in-Ok.ensures.in_range in
    let same = c.requires.marks in
    let within : c.in-Ok.at < length marks = omega (arith, range, same) in
    let is : IsMarked c.args.name made marks c.in-Ok.at (get_or made c.in-Ok.at entry).1
    = now_marked c.args.name made marks c.in-Ok.at c.index.result.now entry c.requires.ascends c.in-Ok.ensures.stands within (sym c.index.ensures ∙ c.if-index.false) in
    on_ok_weaker c.push_references.result
    (followed_some c.args.name made marks c.args.pile.now.items c.in-Ok.at (get_or made c.in-Ok.at entry).1 _ _ is refl)
    c.push_references.ensures
