-- What stands after an expression doesn't go on with it, so the machine may take its arguments as ended there.
use Rattle.std.proofs.Common.{◌≡◌, Bool, true, false, ◌&&◌, List, [], ◌∷◌, refl, sym, ap, ◌∙◌, true≢false}
use Rattle.texts.specs.Bytes.{Bytes}
use Rattle.st_tree.specs.Trees.{Expression, send, Sends, Expressions}
use Rattle.st_grammar.specs.Tokens.{Kind, keyword, semicolon, period, close_paren, close_bracket}
use Rattle.st_grammar.specs.Grammar.{Word, word, Kept, Scope, IsSelector, binary_is, bar_is, Level, of_binary}
use Rattle.st_grammar.specs.Grammar.{of_keyword, full, Sort, unary_sort, binary_sort, keyword_sort, holds, may_come}
use Rattle.st_grammar.specs.Grammar.{takes_unary, goes_on, Next, any_message, no_unary, no_message, ReadsSends}
use Rattle.st_grammar.specs.Grammar.{sends_end, sends_on, a_unary, a_binary, a_keyword, ReadsParts, parts_end, parts_on}
use Rattle.st_grammar.specs.Grammar.{ReadsCascade, cascade_end, cascade_on}
use Rattle.st_grammar_laws.specs.Machine.{Role, Seat, Wide, alone, keyword_part, Slot, outer, binary_part, have, added}
use Rattle.st_grammar_laws.specs.Machine.{binary_send, and_argument, behind_role, level_of, machine_run}
use Rattle.st_lexer.proofs.Sizes.{and_left}

pub and_right : (a b : Bool) → (a && b) ≡ true → b ≡ true
and_right true b h = h
and_right false b h = absurd (true≢false (sym h))

abbrev pub is_argument : Level → Bool
is_argument full = false
is_argument _ = true

abbrev pub widens : Level → Bool
widens of_keyword = true
widens _ = false

-- The tokens may follow an expression at this level.
pub data Follows : Level → List Word → Type 0 where
  end_follows : {l : Level} → Follows l []
  period_follows : {l : Level} {x : Bytes} {t : Bool} {ws : List Word} → Follows l (word period x t ∷ ws)
  round_follows : {l : Level} {x : Bytes} {t : Bool} {ws : List Word} → Follows l (word close_paren x t ∷ ws)
  square_follows : {l : Level} {x : Bytes} {t : Bool} {ws : List Word} → Follows l (word close_bracket x t ∷ ws)
  semicolon_follows : {l : Level} {x : Bytes} {t : Bool} {ws : List Word} → Follows l (word semicolon x t ∷ ws)
  keyword_follows : {l : Level} {x : Bytes} {t : Bool} {ws : List Word} → is_argument l ≡ true
      → Follows l (word keyword x t ∷ ws)
  selector_follows : {k : Kind} {x : Bytes} {t : Bool} {ws : List Word} → IsSelector k
      → Follows of_binary (word k x t ∷ ws)

-- what may follow elsewhere may follow an argument
pub to_binary : {l : Level} {ws : List Word} → Follows l ws → Follows of_binary ws
to_binary end_follows = end_follows
to_binary period_follows = period_follows
to_binary round_follows = round_follows
to_binary square_follows = square_follows
to_binary semicolon_follows = semicolon_follows
to_binary (keyword_follows e) = keyword_follows refl
to_binary (selector_follows s) = selector_follows s

pub to_keyword : {l : Level} {ws : List Word} → l ≡ full → Follows l ws → Follows of_keyword ws
to_keyword f end_follows = end_follows
to_keyword f period_follows = period_follows
to_keyword f round_follows = round_follows
to_keyword f square_follows = square_follows
to_keyword f semicolon_follows = semicolon_follows
to_keyword f (keyword_follows e) = keyword_follows refl
to_keyword f (selector_follows s) = absurd (true≢false (ap is_argument f))

-- what follows a binary message's argument, and a whole keyword message
pub behind_binary : {kept : Kept} {ss : List Scope} {d : _} {next : Next} {l : Level} {ms : Sends} {us vs : List Word}
    → takes_unary next ≡ false → ReadsSends kept ss d next l ms us vs → Follows l vs → Follows of_binary us
behind_binary none sends_end f = to_binary f
behind_binary {next = next} {l = l} none (sends_on e a_unary rest) f = absurd
    (true≢false (sym (and_right (holds l unary_sort) (takes_unary next) e) ∙ none))
behind_binary none (sends_on e (a_binary s a) rest) f = selector_follows s
behind_binary none (sends_on e (a_keyword a parts) rest) f = keyword_follows refl

none_comes : (next : Next) (s : Sort) → goes_on next ≡ false → may_come next s ≡ false
none_comes any_message s none = absurd (true≢false none)
none_comes no_unary s none = absurd (true≢false none)
none_comes no_message unary_sort none = refl
none_comes no_message binary_sort none = refl
none_comes no_message keyword_sort none = refl

pub behind_keyword : {kept : Kept} {ss : List Scope} {d : _} {next : Next} {l : Level} {ms : Sends} {us vs : List Word}
    → goes_on next ≡ false → holds l keyword_sort ≡ true → ReadsSends kept ss d next l ms us vs → Follows l vs
    → Follows full us
behind_keyword {l = full} none h sends_end f = f
behind_keyword {l = of_keyword} none h sends_end f = absurd (true≢false (sym h))
behind_keyword {l = of_binary} none h sends_end f = absurd (true≢false (sym h))
behind_keyword {next = next} {l = l} none h (sends_on {s = s} e m rest) f = absurd
    (true≢false (sym (and_right (holds l s) (may_come next s) e) ∙ none_comes next s none))

pub behind_parts : {kept : Kept} {ss : List Scope} {d : _} {selector : Bytes} {es : Expressions} {us vs : List Word}
    → ReadsParts kept ss d selector es us vs → Follows full vs → Follows of_keyword us
behind_parts parts_end f = to_keyword refl f
behind_parts (parts_on a parts) f = keyword_follows refl

pub behind_cascade : {kept : Kept} {ss : List Scope} {d : _} {cs : Sends} {us vs : List Word}
    → ReadsCascade kept ss d cs us vs → Follows full vs → Follows full us
behind_cascade cascade_end f = f
behind_cascade (cascade_on m rest) f = semicolon_follows

-- Which messages might still have come is then the same to the machine.
pub none_or_more : (kept : Kept) (k : Slot) (e : Expression) (next other : Next) {l : Level} {ws : List Word}
    → level_of k ≡ l → Follows l ws → machine_run kept (have k e next) ws ≡ machine_run kept (have k e other) ws
none_or_more kept k e next other h end_follows = refl
none_or_more kept k e next other h period_follows = refl
none_or_more kept k e next other h round_follows = refl
none_or_more kept k e next other h square_follows = refl
none_or_more kept k e next other h semicolon_follows = refl
none_or_more kept (outer (alone o)) e next other h (keyword_follows a) = absurd
    (true≢false (sym a ∙ ap is_argument (sym h)))
none_or_more kept (outer (keyword_part o role f selector es)) e next other h (keyword_follows a) = refl
none_or_more kept (binary_part w role f x) e next other h (keyword_follows a) = refl
none_or_more kept (outer (alone o)) e next other h (selector_follows s) = absurd (true≢false (ap is_argument (sym h)))
none_or_more kept (outer (keyword_part o role f selector es)) e next other h (selector_follows s) = absurd
    (true≢false (ap widens h))
none_or_more kept (binary_part w role f x) e next other h (selector_follows binary_is) = refl
none_or_more kept (binary_part w role f x) e next other h (selector_follows bar_is) = refl

-- The argument of a binary message has ended.
pub binary_ends : (kept : Kept) (w : Wide) (role : Role) (f : Expression) (x : Bytes) (e : Expression) (next : Next)
    {ws : List Word} → Follows of_binary ws
    → machine_run kept (have (binary_part w role f x) e next) ws
    ≡ machine_run kept (have (outer w) (added role f (binary_send x e)) (behind_role role)) ws
binary_ends kept w role f x e next end_follows = refl
binary_ends kept w role f x e next period_follows = refl
binary_ends kept w role f x e next round_follows = refl
binary_ends kept w role f x e next square_follows = refl
binary_ends kept w role f x e next semicolon_follows = refl
binary_ends kept w role f x e next (keyword_follows a) = refl
binary_ends kept w role f x e next (selector_follows binary_is) = refl
binary_ends kept w role f x e next (selector_follows bar_is) = refl

-- The last argument of a keyword message has ended.
pub keyword_ends : (kept : Kept) (o : Seat) (role : Role) (f : Expression) (selector : Bytes) (es : Expressions)
    (e : Expression) (next : Next) {ws : List Word} → Follows full ws
    → machine_run kept (have (outer (keyword_part o role f selector es)) e next) ws
    ≡ machine_run kept (have (outer (alone o)) (added role f (send selector (and_argument es e))) no_message) ws
keyword_ends kept o role f selector es e next end_follows = refl
keyword_ends kept o role f selector es e next period_follows = refl
keyword_ends kept o role f selector es e next round_follows = refl
keyword_ends kept o role f selector es e next square_follows = refl
keyword_ends kept o role f selector es e next semicolon_follows = refl
keyword_ends kept o role f selector es e next (keyword_follows a) = absurd (true≢false (sym a))
