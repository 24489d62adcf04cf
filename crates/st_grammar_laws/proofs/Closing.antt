-- Where the machine takes a closing bracket, a text with a tree has it.
use Rattle.std.proofs.Common.{◌≡◌, ℕ, ◌≤◌, false, List, [], ◌∷◌, ◌++◌, length, take, refl, sym, ap, ◌∙◌, subst}
use Rattle.std.proofs.Common.{append_assoc, append-nil}
use Rattle.std.proofs.lemmas.List.{take-take}
use Rattle.texts.specs.Bytes.{Bytes}
use Rattle.st_grammar.specs.Tokens.{Kind, period, token, piece, Token, Lexes, end_after}
use Rattle.st_grammar.specs.Grammar.{Word, word, words_of, ReadsProgram}
use Rattle.st_grammar.specs.Fails.{every, Continues}
use Rattle.st_grammar_laws.specs.Machine.{start}
use Rattle.st_grammar_laws.proofs.Paths.{Path, path_end, path_on, first_word, words_joined}
use Rattle.st_grammar_laws.proofs.TextWords.{end_joined, OneMore, one_more}
use Rattle.st_grammar_laws.proofs.Exact.{Supplies, Closer, square_closes, round_closes, Stands, path_joined}

closer_piece : {kind : Kind} {x : Bytes} → Closer kind x → piece x ≡ token kind (length x)
closer_piece square_closes = refl
closer_piece round_closes = refl

-- the kind of the last word
kind_at_end : List Word → Kind
kind_at_end [] = period
kind_at_end (word k x t ∷ []) = k
kind_at_end (w ∷ v ∷ ws) = kind_at_end (v ∷ ws)

ends_with : (ws : List Word) (w : Word) → kind_at_end (ws ++ w ∷ []) ≡ kind_at_end (w ∷ [])
unfolding kind_at_end
ends_with [] w = refl
ends_with (v ∷ []) w = refl
ends_with (v ∷ u ∷ ws) w = ends_with (u ∷ ws) w

next_kind : (text : Bytes) (seen : List Token) (k : Kind) (x : Bytes) (o : OneMore text seen (word k x false))
    → o.next.kind ≡ k
unfolding kind_at_end
next_kind text seen k x o =
    sym (ends_with (words_of o.other seen) (first_word (end_after 0 seen) o.other o.next))
    ∙ ap kind_at_end (sym (words_joined 0 o.other seen (o.next ∷ []))) ∙ ap kind_at_end o.words
    ∙ ends_with (words_of text seen) (word k x false)

pub stands_by : Supplies → Stands
stands_by supplies kind x closer form text seen left u v lexes p e =
    let o : OneMore text seen (word kind x false) = one_more text seen left kind x lexes (closer_piece closer) in
    let path : Path every (start form) (words_of o.other (seen ++ o.next ∷ [])) v = subst
    (λ ws. Path every (start form) ws v) (sym o.words) (path_joined p (path_on e path_end)) in
    let whole : Lexes 0 o.other ((seen ++ o.next ∷ []) ++ []) = subst
    (λ (ts : List Token). Lexes 0 o.other ts) (sym (append-nil (seen ++ o.next ∷ []))) o.lexes in
    let c : Continues every form o.other (seen ++ o.next ∷ []) = supplies every form o.other
    (seen ++ o.next ∷ []) [] v whole path in
    let later : end_after 0 seen ≤ end_after 0 (seen ++ o.next ∷ []) = subst
    (λ (n : ℕ). end_after 0 seen ≤ n) (sym (end_joined 0 seen o.next)) o.later in
    let same : take (end_after 0 seen) c.other ≡ take (end_after 0 seen) o.other =
    sym (take-take (end_after 0 seen) (end_after 0 (seen ++ o.next ∷ [])) c.other later)
    ∙ ap (take (end_after 0 seen)) c.alike
    ∙ take-take (end_after 0 seen) (end_after 0 (seen ++ o.next ∷ [])) o.other later in
    let tokens : (seen ++ o.next ∷ []) ++ c.more ≡ seen ++ o.next ∷ c.more = append_assoc seen (o.next ∷ []) c.more in
    record {
      other = c.other;
      next = o.next;
      more = c.more;
      program = c.program;
      alike = same ∙ o.alike;
      is_kind = next_kind text seen kind x o;
      lexes = subst (λ (ts : List Token). Lexes 0 c.other ts) tokens c.lexes;
      reads = subst (λ (ts : List Token). ReadsProgram every form c.program (words_of c.other ts)) tokens c.reads;
    }
