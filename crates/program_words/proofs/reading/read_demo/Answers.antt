use Rattle.std.proofs.Common.{◌≡◌, None, Some, map, string_bytes, rules}
use Rattle.program_words.proofs.Commands.{no_demo}
use Rattle.program_words.proofs.Loads.{no_settings, no_seed, no_sessions, demo_read}
use Rattle.program_words.proofs.reading.read_demo.Goals as goal

pub returns-in_err-settings : goal.returns-in_err-settings
returns-in_err-settings c =
    let none : c.from_residual.result ≡ None = search rules in
    rw none (no_demo (map string_bytes c.args.words.now)
    (no_settings (map string_bytes c.args.words.now) c.in_err-settings.ensures))

pub returns-in_err-seed : goal.returns-in_err-seed
returns-in_err-seed c =
    let none : c.from_residual-in_err-seed.result ≡ None = search rules in
    let seed : c.in_ok-settings.settings.seed ≡ None = search rules in
    rw none (no_demo (map string_bytes c.args.words.now)
    (no_seed (map string_bytes c.args.words.now) c.in_ok-settings.settings c.in_ok-settings.ensures seed))

pub returns-in_err-sessions : goal.returns-in_err-sessions
returns-in_err-sessions c =
    let none : c.from_residual-in_err-sessions.result ≡ None = search rules in
    let sessions : c.in_ok-settings.settings.sessions ≡ None = search rules in
    rw none (no_demo (map string_bytes c.args.words.now)
    (no_sessions (map string_bytes c.args.words.now) c.in_ok-settings.settings c.in_ok-settings.ensures sessions))

pub returns : goal.returns
returns c =
    let seed : c.in_ok-settings.settings.seed ≡ Some c.in_ok-seed.seed = search rules in
    let sessions : c.in_ok-settings.settings.sessions ≡ Some c.in_ok-sessions.sessions = search rules in
    demo_read (map string_bytes c.args.words.now) c.in_ok-settings.settings c.in_ok-seed.seed c.in_ok-sessions.sessions
    c.number_or_default-rounds.result c.in_ok-settings.ensures seed sessions c.number_or_default-rounds.ensures
