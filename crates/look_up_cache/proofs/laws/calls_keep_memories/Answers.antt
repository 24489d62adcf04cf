use Rattle.look_up_cache.proofs.Atoms.{unit_remains, room_remains, names_remain, show_remains, access_remains, own_remains, known_remains, put_remains, edit_remains, note_remains, made_remains}
use Rattle.look_up_cache.proofs.laws.calls_keep_memories.Goals as goal

pub returns : goal.returns
returns c = record {
  unit = λ before after acted. unit_remains before after acted;
  room = λ slots before after acted. room_remains before after slots acted;
  names = λ count before after acted. names_remain before after count acted;
  show = λ text before after acted. show_remains before after text acted;
  access = λ access name before after reached. access_remains before after access name reached;
  own = λ before after acted. own_remains before after acted;
  known = λ name before after acted. known_remains before after name acted;
  put = λ name body before after none acted. put_remains before after name body none acted;
  edited = λ name edit object before after there keeps acted. edit_remains before after name edit object there keeps acted;
  note = λ name update before after acted. note_remains before after name update acted;
  made = λ objects first before after sound made. made_remains before after objects first sound made;
}
