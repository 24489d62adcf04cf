-- What several calls of a source or of a sink do together.
use Rattle.std.proofs.Common.{◌≡◌, ℕ, ◌+◌, ◌≤◌, [], ◌++◌, length, take, drop, Option, Some, None, refl, ap, arith, sym, ◌∙◌, append_assoc, append-nil, length-append, length-take}
use Rattle.std.specs.Io.KnownBytes.{Appends, Consumes, Keeps}
use Rattle.std.proofs.Math.Seq.{take-add}
use Rattle.std.proofs.lemmas.List.{drop-drop, take-append-drop}
use Rattle.gem_object.specs.texts.Bytes.{Bytes}
use Rattle.gem_io.specs.Faults.{HasRisen}

appends_more : (a b c : Option Bytes) (x y : Bytes) → Appends a b x → Appends b c y → Appends a c (x ++ y)
appends_more None b c x y p q = tt
appends_more (Some xs) None c x y p q = absurd p
appends_more (Some xs) (Some ys) None x y p q = absurd q
appends_more (Some xs) (Some ys) (Some zs) x y p q = rw (q, p) (append_assoc xs x y)

appends_kept : (a b c : Option Bytes) (x : Bytes) → Appends a b x → Keeps b c → Appends a c x
appends_kept None b c x p q = tt
appends_kept (Some xs) None c x p q = absurd p
appends_kept (Some xs) (Some ys) None x p q = absurd q
appends_kept (Some xs) (Some ys) (Some zs) x p q = q ∙ p

appends_none : (a : Option Bytes) → Appends a a []
appends_none None = tt
appends_none (Some xs) = sym (append-nil xs)

consumes_more : (a b c : Option Bytes) (x y : Bytes) → Consumes a b x → Consumes b c y → Consumes a c (x ++ y)
consumes_more None b c x y p q = tt
consumes_more (Some xs) None c x y p q = absurd p
consumes_more (Some xs) (Some ys) None x y p q = absurd q
consumes_more (Some xs) (Some ys) (Some zs) x y p q = rw (p, q) (sym (append_assoc x y zs))

consumes_kept : (a b c : Option Bytes) (x : Bytes) → Consumes a b x → Keeps b c → Consumes a c x
consumes_kept None b c x p q = tt
consumes_kept (Some xs) None c x p q = absurd p
consumes_kept (Some xs) (Some ys) None x p q = absurd q
consumes_kept (Some xs) (Some ys) (Some zs) x p q = rw (p, q) refl

pub consumes_none : (a : Option Bytes) → Consumes a a []
consumes_none None = tt
consumes_none (Some xs) = refl

-- a rise after a wait is a rise
pub risen_since : (first before after : ℕ) → first ≤ before → HasRisen before after → HasRisen first after
risen_since first before after le risen = omega arith

-- Where a writing stands: with so many bytes written, and the rest to come.
pub record Wrote (bytes : Bytes) (before now : Option Bytes) (rest : Bytes) (first faults : ℕ) : Type 0 where
  pub count : ℕ
  pub written : Appends before now (take count bytes)
  pub left : rest ≡ drop count bytes
  pub quiet : faults ≡ first

pub nothing_written : (bytes : Bytes) (now : Option Bytes) (faults : ℕ) → Wrote bytes now now bytes faults faults
nothing_written bytes now faults = record { count = 0; written = appends_none now; left = refl; quiet = refl }

pub piece_written : {bytes rest : Bytes} {before now : Option Bytes} {first faults : ℕ} (n : ℕ) (next : Option Bytes) (faults' : ℕ) (rest' : Bytes)
    → Wrote bytes before now rest first faults → Appends now next (take n rest) → rest' ≡ drop n rest → faults' ≡ faults
    → Wrote bytes before next rest' first faults'
piece_written {bytes = bytes} {before = before} {now = now} n next faults' rest' here more is quiet = record {
  count = here.count + n;
  written = rw (take-add here.count n bytes) (appends_more before now next (take here.count bytes) (take n (drop here.count bytes)) here.written (rw here.left at more));
  left = is ∙ (ap (drop n) here.left ∙ drop-drop n here.count bytes);
  quiet = quiet ∙ here.quiet;
}

pub all_written : {bytes rest : Bytes} {before now : Option Bytes} {first faults : ℕ} → Wrote bytes before now rest first faults → rest ≡ [] → Appends before now bytes
all_written {bytes = bytes} here none =
    let gone : drop here.count bytes ≡ [] = sym here.left ∙ none in
    let whole : take here.count bytes ≡ bytes =
    sym (append-nil (take here.count bytes)) ∙ (ap (λ left. take here.count bytes ++ left) (sym gone) ∙ take-append-drop here.count bytes) in
    rw whole at here.written

pub part_written : {bytes rest : Bytes} {before now : Option Bytes} {first faults : ℕ} (next : Option Bytes) → Wrote bytes before now rest first faults
    → Keeps now next → (n : ℕ) × Appends before next (take n bytes)
part_written {bytes = bytes} {before = before} {now = now} next here kept = (here.count, appends_kept before now next (take here.count bytes) here.written kept)

-- Where a reading stands: with this text.
pub record HasRead (before now : Option Bytes) (text : Bytes) (limit first faults : ℕ) : Type 0 where
  pub given : Consumes before now text
  pub short : length text ≤ limit
  pub quiet : faults ≡ first

pub nothing_read : (now : Option Bytes) (limit faults : ℕ) → HasRead now now [] limit faults faults
nothing_read now limit faults = record { given = consumes_none now; short = omega arith; quiet = refl }

-- One more piece. What was given is longer than the limit exactly where the piece goes past it.
pub read_piece : {before now : Option Bytes} {text : Bytes} {limit first faults : ℕ} (next : Option Bytes) (room : Bytes) (n : ℕ)
    → HasRead before now text limit first faults → Consumes now next (take n room) → n ≤ length room
    → Consumes before next (text ++ take n room) × (length (text ++ take n room) ≡ length text + n)
read_piece {before = before} {now = now} {text = text} next room n here piece fits =
    (consumes_more before now next text (take n room) here.given piece, simp (length-append, length-take) (omega arith))
