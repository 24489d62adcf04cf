use Rattle.body_codec.proofs.Takes.{all_bytes}
use Rattle.body_codec.proofs.Readers.{object_reads, effect_reads}
use Rattle.body_codec.proofs.laws.reading_is_exact.Goals as goal

pub returns-clause-objects : goal.returns-clause-objects
returns-clause-objects c number object rest is = (object_reads number).again object rest is

pub returns-clause-only_objects : goal.returns-clause-only_objects
returns-clause-only_objects c number bytes object rest all e =
    let t = (object_reads number).takes bytes object rest (all_bytes bytes all) e in
    (t.1, t.0.parts)

pub returns-clause-effects : goal.returns-clause-effects
returns-clause-effects c number effect rest is = (effect_reads number).again effect rest is

pub returns-clause-only_effects : goal.returns-clause-only_effects
returns-clause-only_effects c number bytes effect rest all e =
    let t = (effect_reads number).takes bytes effect rest (all_bytes bytes all) e in
    (t.1, t.0.parts)
