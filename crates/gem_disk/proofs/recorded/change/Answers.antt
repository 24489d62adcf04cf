use Rattle.std.proofs.Common.{rules, ◌≡◌, ℕ, length, take, refl, ◌∙◌, ap}
use Rattle.gem_disk.specs.Disk.{placed}
use Rattle.gem_disk.proofs.recorded.change.Goals as goal

pub returns-clause-call : goal.returns-clause-call
returns-clause-call c =
    let size : c.len-size.result ≡ length c.args.held.now.items = search rules in record {
      makes = c.in_ok-lost.ensures.held;
      call = record {
        file = c.args.file;
        kind = c.args.kind;
        at = c.args.at;
        count = length c.args.bytes.now;
        lost = c.in_ok-lost.lost;
        size = c.len-size.result;
      };
      more = search rules;
      of_file = refl;
      did = refl;
      undoes = ap (λ (n : ℕ). take n (placed c.args.at c.in_ok-lost.lost.items c.make.new.held.items)) size ∙ c.in_ok-lost.ensures.lost;
    }
