use Rattle.std.proofs.Common.{◌≡◌, Some, sym, ◌∙◌}
use Rattle.st_code.proofs.Agree.{checked, known_is}
use Rattle.st_code.proofs.laws.ways_agree.Goals as goal

pub returns : goal.returns
returns c bytes literals blocks lines at held other none is came also =
    let all = checked bytes literals blocks lines none is in
    let one = known_is literals blocks lines all.operands all.stack all.start at held came in
    let two = known_is literals blocks lines all.operands all.stack all.start at other also in
    let both : Some (Some held) ≡ Some (Some other) = sym one ∙ two in
    cc
