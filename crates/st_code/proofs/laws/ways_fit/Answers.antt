use Rattle.st_code.proofs.Agree.{checked, known_is, clean_at}
use Rattle.st_code.proofs.laws.ways_fit.Goals as goal

pub returns : goal.returns
returns c bytes literals blocks lines at held line none is came there =
    let all = checked bytes literals blocks lines none is in
    let known = known_is literals blocks lines all.operands all.stack all.start at held came in
    let clean = clean_at literals blocks lines all.operands all.stack at held line known there in
    (clean.scopes, clean.stack)
