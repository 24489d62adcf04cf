use Rattle.std.proofs.Common.{is_some, ap, sym, ◌∙◌}
use Rattle.std.proofs.lemmas.Bool.{false≢true}
use Rattle.kernel_image.proofs.Entries.{distinct_by_type}
use Rattle.kernel_image.proofs.build.dictionary.Goals as goal

pub unreachable-requires : goal.unreachable-requires
unreachable-requires c =
    false≢true (sym (ap is_some c.in_default.is) ∙ c.in_ok-pairs.ensures.distinct.1 (distinct_by_type _ c.equality_of_values.ensures _ c.requires.distinct))
