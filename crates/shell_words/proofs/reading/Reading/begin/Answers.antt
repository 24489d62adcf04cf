use Rattle.std.proofs.Common.{rules, ◌≡◌, ◌<◌, ◌≤◌, true, false, length, refl, arith}
use Rattle.shell_words.specs.declared.limits.TheConstants.{SESSION_LIMIT}
use Rattle.texts.specs.Names.{is_user_name}
use Rattle.shell_words.specs.ScriptGrammar.{no_user_name, one_session_more}
use Rattle.shell_words.specs.Reading.{sessions_of}
use Rattle.shell_words.proofs.Drafts.{begun_reading}
use Rattle.shell_words.proofs.reading.Reading.begin.Goals as goal

pub returns-then-not-is_user_name-clause-err : goal.returns-then-not-is_user_name-clause-err
returns-then-not-is_user_name-clause-err c line rest says =
    let no : is_user_name c.args.user ≡ false = search rules in
    (refl, no_user_name c.args.user says no refl)

pub returns-then-len-eq-SESSION_LIMIT-clause-err : goal.returns-then-len-eq-SESSION_LIMIT-clause-err
returns-then-len-eq-SESSION_LIMIT-clause-err c line rest says =
    let is : is_user_name c.args.user ≡ true = search rules in
    let full : SESSION_LIMIT ≤ length (sessions_of c.args.self.now) = search rules in
    (refl, one_session_more c.args.user says is full refl)

pub returns-clause-reading : goal.returns-clause-reading
returns-clause-reading c =
    let is : is_user_name c.args.user ≡ true = search rules in
    let few : length (sessions_of c.args.self.now) < SESSION_LIMIT = search rules in
    begun_reading _ _ _ c.in_ok-close.ensures.sessions refl few is c.new.ensures.items (omega arith)
