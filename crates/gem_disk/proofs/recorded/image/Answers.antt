use Rattle.std.proofs.Common.{ℕ, List, drop, reverse, sym, ◌∙◌, ap}
use Rattle.gem_disk.specs.declared.images.Pick.{Pick}
use Rattle.gem_disk.specs.Disk.{Change}
use Rattle.gem_disk.specs.Recorded.{image_back}
use Rattle.gem_disk.proofs.History.{nothing_anew}
use Rattle.gem_disk.proofs.recorded.image.Goals as goal

pub returns-in_ok-undo-in-Old : goal.returns-in_ok-undo-in-Old
returns-in_ok-undo-in-Old c =
    sym
    (c.in_ok-undo-in-Old.ensures.back (λ (_ : Change) (old : List ℕ). old)
    ∙ nothing_anew c.args.file (drop c.in_ok-undo-in-Old.field-0 c.args.calls.now) c.undo.new.bytes.items)
    ∙ ap (λ (pick : Pick). image_back pick c.args.file (reverse c.args.calls.now) c.args.bytes.items) (sym c.in-Old.is)
