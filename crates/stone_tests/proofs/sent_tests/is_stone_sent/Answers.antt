use denote.Exit.{yes}
use denote.Param.Send.{arg_send, param_send}
use Rattle.stone_core.proofs.Sent.{stone_send}
use Rattle.stone_tests.proofs.sent_tests.is_stone_sent.Goals as goal

pub is_sent-requires-send-T : goal.is_sent-requires-send-T
is_sent-requires-send-T g c κs within = param_send _ _ (arg_send _ yes _ (stone_send _ _ c.type_bounds.send-K))
