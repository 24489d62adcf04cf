use Rattle.std.proofs.Common.{◌∙◌, sym, rules}
use Rattle.kernel_state.proofs.images.insert.Goals as goal

pub insert-requires : goal.insert-requires
insert-requires g c = record {
  class_name = search rules;
  segment_name = search rules;
  body = (c.what_is_spelled.ensures.bodies c.args.object.body).0 (sym c.is_spelled.ensures ∙ c.if-not-is_spelled.false);
}
