use Rattle.std.proofs.Common.{◌≡◌, ◌∷◌, None, map, string_bytes, codes, ap, rules}
use Rattle.std.proofs.lemmas.List.{nil_from_length}
use Rattle.std.proofs.lemmas.Slice.Eq.{slice_eq-Decides}
use Rattle.std.proofs.lemmas.Bool.Decides.{Decides-eqb}
use Rattle.program_words.proofs.Commands.{no_word, no_command, by_command, was_said, not_said, nothing_asked}
use Rattle.program_words.proofs.reading.words_of.Goals as goal

pub returns-in_err-command : goal.returns-in_err-command
returns-in_err-command c =
    let none : c.from_residual.result ≡ None = search rules in
    rw none (no_word (map string_bytes c.args.words.now)
    (ap (map string_bytes) (nil_from_length c.args.words.now c.in_err-command.ensures.cases)))

pub returns-then-eq : goal.returns-then-eq
returns-then-eq c =
    let is : map string_bytes c.args.words.now ≡ string_bytes c.in_ok-command.command.now ∷ map string_bytes c.in_ok-command.rest.now =
    ap (map string_bytes) c.in_ok-command.ensures.cases.0 in
    let tells = slice_eq-Decides Decides-eqb c.as_str-command.result.now (codes "serve") c.eq.result c.eq.ensures in
    by_command (map string_bytes c.args.words.now) (map string_bytes c.in_ok-command.rest.now)
    (string_bytes c.in_ok-command.command.now) (codes "serve") c.read_serve.result is
    (was_said c.eq.result c.as_str-command.result.now (string_bytes c.in_ok-command.command.now) (codes "serve")
    c.as_str-command.ensures.value tells c.if-eq.true)
    c.read_serve.ensures

pub returns-then-eq-2 : goal.returns-then-eq-2
returns-then-eq-2 c =
    let is : map string_bytes c.args.words.now ≡ string_bytes c.in_ok-command.command.now ∷ map string_bytes c.in_ok-command.rest.now =
    ap (map string_bytes) c.in_ok-command.ensures.cases.0 in
    let tells = slice_eq-Decides Decides-eqb c.as_str-command.result.now (codes "init") c.eq-2.result c.eq-2.ensures in
    by_command (map string_bytes c.args.words.now) (map string_bytes c.in_ok-command.rest.now)
    (string_bytes c.in_ok-command.command.now) (codes "init") c.read_init.result is
    (was_said c.eq-2.result c.as_str-command.result.now (string_bytes c.in_ok-command.command.now) (codes "init")
    c.as_str-command.ensures.value tells c.if-eq-2.true)
    c.read_init.ensures

pub returns-then-eq-3 : goal.returns-then-eq-3
returns-then-eq-3 c =
    let is : map string_bytes c.args.words.now ≡ string_bytes c.in_ok-command.command.now ∷ map string_bytes c.in_ok-command.rest.now =
    ap (map string_bytes) c.in_ok-command.ensures.cases.0 in
    let tells = slice_eq-Decides Decides-eqb c.as_str-command.result.now (codes "check") c.eq-3.result c.eq-3.ensures in
    by_command (map string_bytes c.args.words.now) (map string_bytes c.in_ok-command.rest.now)
    (string_bytes c.in_ok-command.command.now) (codes "check") c.read_check.result is
    (was_said c.eq-3.result c.as_str-command.result.now (string_bytes c.in_ok-command.command.now) (codes "check")
    c.as_str-command.ensures.value tells c.if-eq-3.true)
    c.read_check.ensures

pub returns-then-eq-4 : goal.returns-then-eq-4
returns-then-eq-4 c =
    let is : map string_bytes c.args.words.now ≡ string_bytes c.in_ok-command.command.now ∷ map string_bytes c.in_ok-command.rest.now =
    ap (map string_bytes) c.in_ok-command.ensures.cases.0 in
    let tells = slice_eq-Decides Decides-eqb c.as_str-command.result.now (codes "demo") c.eq-4.result c.eq-4.ensures in
    by_command (map string_bytes c.args.words.now) (map string_bytes c.in_ok-command.rest.now)
    (string_bytes c.in_ok-command.command.now) (codes "demo") c.read_demo.result is
    (was_said c.eq-4.result c.as_str-command.result.now (string_bytes c.in_ok-command.command.now) (codes "demo")
    c.as_str-command.ensures.value tells c.if-eq-4.true)
    c.read_demo.ensures

pub returns : goal.returns
returns c =
    let is : map string_bytes c.args.words.now ≡ string_bytes c.in_ok-command.command.now ∷ map string_bytes c.in_ok-command.rest.now =
    ap (map string_bytes) c.in_ok-command.ensures.cases.0 in
    let shown = c.as_str-command.result.now in
    let word = string_bytes c.in_ok-command.command.now in
    let serve = not_said c.eq.result shown word (codes "serve") c.as_str-command.ensures.value
    (slice_eq-Decides Decides-eqb shown (codes "serve") c.eq.result c.eq.ensures) c.if-eq.false in
    let init = not_said c.eq-2.result shown word (codes "init") c.as_str-command.ensures.value
    (slice_eq-Decides Decides-eqb shown (codes "init") c.eq-2.result c.eq-2.ensures) c.if-eq-2.false in
    let check = not_said c.eq-3.result shown word (codes "check") c.as_str-command.ensures.value
    (slice_eq-Decides Decides-eqb shown (codes "check") c.eq-3.result c.eq-3.ensures) c.if-eq-3.false in
    let demo = not_said c.eq-4.result shown word (codes "demo") c.as_str-command.ensures.value
    (slice_eq-Decides Decides-eqb shown (codes "demo") c.eq-4.result c.eq-4.ensures) c.if-eq-4.false in
    nothing_asked (map string_bytes c.args.words.now) (map string_bytes c.in_ok-command.rest.now) word is
    (no_command word (map string_bytes c.in_ok-command.rest.now) serve init check demo)
