use Rattle.std.proofs.Common.{sym, ap, ◌∙◌, subst}
use Rattle.rc_dict.specs.Dict.{IsDict, entry}
use Rattle.rc_dict.proofs.Entries.{entry-settled}
use Rattle.rc_dict.proofs.Kept.{IsDict-settled}
use Rattle.rc_dict.proofs.Merges.{settled-from_updated}
use Rattle.rc_dict.proofs.laws.entries_follow.Goals as goal

pub returns-clause-entries : goal.returns-clause-entries
returns-clause-entries g c = λ update pairs after key dict e.
    ap (entry g.K.Ord.cmp key) (sym (settled-from_updated g.K.Ord.cmp update pairs after e)) ∙ entry-settled g.K.Ord.cmp g.met.K.Ord.total key update pairs dict

pub returns-clause-dict : goal.returns-clause-dict
returns-clause-dict g c = λ update pairs after dict e.
    subst (IsDict g.K.Ord.cmp) (settled-from_updated g.K.Ord.cmp update pairs after e) (IsDict-settled g.K.Ord.cmp g.met.K.Ord.total update pairs dict)
