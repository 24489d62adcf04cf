use Rattle.gem_server.proofs.LoadCommits.{load_commits}
use Rattle.gem_server.proofs.laws.loads_commit_each_round.Goals as goal

pub returns : goal.returns
returns c t book seed sessions rounds load legal served reads setup = load_commits t book seed sessions rounds load legal served reads setup
