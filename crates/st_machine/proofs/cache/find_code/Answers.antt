use Rattle.std.proofs.Common.{◌∙◌, ap, sym}
use Rattle.gem_object.specs.texts.Bytes.{Bytes as Text}
use Rattle.st_tree.specs.Trees.{Program}
use Rattle.lru.specs.LruCache.{LruCache}
use Rattle.st_machine.specs.Methods.{sources}
use Rattle.st_machine.proofs.Kept.{found_is, all_promoted, promoted_is}
use Rattle.st_machine.proofs.cache.find_code.Goals as goal

pub returns-in-Some-clause-code : goal.returns-in-Some-clause-code
returns-in-Some-clause-code c =
    found_is c.args.source.now c.args.entries.now.entries c.in-Some.code c.requires.all
    (sym c.in_ok-code.ensures ∙ c.in-Some.is)

pub returns-in-Some-clause-all : goal.returns-in-Some-clause-all
returns-in-Some-clause-all c =
    rw c.promote.ensures.entries (all_promoted c.args.source.now c.args.entries.now.entries c.requires.all)

pub returns-in-Some-clause-used : goal.returns-in-Some-clause-used
returns-in-Some-clause-used c =
    ap (λ (cache : LruCache Text Program). sources cache.entries) c.promote.ensures.entries
    ∙ promoted_is c.args.source.now c.args.entries.now.entries c.in-Some.code (sym c.in_ok-code.ensures ∙ c.in-Some.is)
