use Rattle.std.proofs.Common.{ap, ap₂, ◌++◌, ◌∙◌}
use Rattle.kernel_image.specs.Objects.{globals_entries, entries_from}
use Rattle.kernel_image.proofs.build.globals_entries.Goals as goal

pub add_entries-requires : goal.add_entries-requires
add_entries-requires c = c.other_globals.ensures.counters

pub returns : goal.returns
unfolding globals_entries
returns c = c.in_ok-add_entries.ensures
    ∙ ap₂ (λ classes others. classes ++ others)
    (c.in_ok-entries.ensures ∙ ap (entries_from 1) c.class_rows.ensures.names) c.other_globals.ensures.entries
