use Rattle.std.proofs.Common.{rules, ◌≡◌, ◌++◌, ◌∷◌, [], ap, arith, sym, ◌∙◌, codes}
use Rattle.shell_words.specs.Lines.{lines_of, IsInner}
use Rattle.shell_words.proofs.Empty.{empty_if}
use Rattle.shell_words.proofs.Bodies.{passed_none, pass_line, found_percent, no_percent, counts}
use Rattle.shell_words.proofs.pieces.split_body.Goals as goal

pub overflow_add-lines : goal.overflow_add-lines
overflow_add-lines c =
    let few = counts c.loop-rest.invariant.0 c.split_line.ensures.lines in
    let size = c.requires in
    omega (arith, few, size)

pub loop-rest-init : goal.loop-rest-init
loop-rest-init c = (rw c.new-body.ensures.items (passed_none (lines_of c.args.text.now)), omega arith)

pub returns-then-eq-clause-body : goal.returns-then-eq-clause-body
returns-then-eq-clause-body c =
    let is : c.split_line.result.0.now ≡ codes "%" = search rules in
    found_percent c.loop-rest.invariant.0 c.split_line.ensures.lines is

pub returns-clause-body : goal.returns-clause-body
returns-clause-body c = no_percent c.loop-rest.invariant.0 (ap lines_of (empty_if _ (sym c.is_empty.ensures ∙ c.loop-rest-test.false)))

pub loop-rest-preserved : goal.loop-rest-preserved
loop-rest-preserved c =
    let inner : IsInner c.split_line.result.0.now = search rules in
    let items : c.push.new.self.items ≡ (c.loop-rest.body.items ++ c.split_line.result.0.now) ++ 10 ∷ [] =
    c.in_ok-push.ensures.items ∙ ap (λ xs. xs ++ 10 ∷ []) c.in_ok-extend_from_slice.ensures.items in
    let shorter = c.split_line.ensures.shorter in
    let left = c.loop-rest.invariant.1 in
    (rw items (pass_line c.loop-rest.invariant.0 c.split_line.ensures.lines inner), omega (arith, shorter, left))
