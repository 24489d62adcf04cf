use Rattle.std.proofs.Common.{sym, ap, ◌∙◌}
use Rattle.rc_dict.specs.Dict.{entry, all_settled, first_changed}
use Rattle.rc_dict.proofs.Entries.{entry-all_settled}
use Rattle.rc_dict.proofs.Merges.{merged-Ok}
use Rattle.rc_dict.proofs.Told.{told}
use Rattle.rc_dict.proofs.laws.last_update_stands.Goals as goal

pub returns-clause-last : goal.returns-clause-last
returns-clause-last g c = λ view place after updates key dict e.
    let stands = merged-Ok (first_changed g.K.Ord.cmp g.T.Ord.cmp view place 0 updates) (all_settled g.K.Ord.cmp updates place) after e in
    ap (entry g.K.Ord.cmp key) (sym stands.1) ∙ entry-all_settled g.K.Ord.cmp g.met.K.Ord.total key updates place dict

pub returns-clause-told : goal.returns-clause-told
returns-clause-told g c = λ one other tells dict dict' same. told g.K.Ord.cmp g.met.K.Ord.total tells one other dict dict' same
