-- Puts of distinct keys in either order.
use Rattle.std.proofs.Common.{◌≡◌, List, [], ◌∷◌, false, Ordering, sym, ap, ◌∙◌}
use Rattle.std.proofs.lemmas.Bool.{false≢true}
use Rattle.std.specs.Cmp.{IsTotalOrder}
use Rattle.std.specs.Ordering.{is_eq}
use Rattle.std.specs.declared.cmp.Ordering.TheVariants.{Less, Greater}
use Rattle.rc_dict.specs.Dict.{put}
use Rattle.rc_dict.proofs.Edits.{put-past, put-here, put-before}
use Rattle.sorted_pairs.proofs.Cases.{by_ordering, above_lesser, below_greater}

module _ {K T : Type 0} (cmp : K → K → Ordering) (total : IsTotalOrder cmp) where
  -- the lesser key and the greater one
  in_order : (x y : K) (v w : T) (pairs : List (K × T)) → cmp x y ≡ Less → put cmp y w (put cmp x v pairs) ≡ put cmp x v (put cmp y w pairs)
  in_order x y v w [] less = put-past cmp y w (x, v) [] less ∙ sym (put-before cmp x v (y, w) [] (above_lesser total x y less))
  in_order x y v w (pair ∷ rest) less = by_ordering (cmp pair.0 y)
      (λ past. by_ordering (cmp pair.0 x)
      (λ e. ap (put cmp y w) (put-past cmp x v pair rest e) ∙ put-past cmp y w pair (put cmp x v rest) past ∙ ap (λ l. pair ∷ l) (in_order x y v w rest less)
      ∙ sym (ap (put cmp x v) (put-past cmp y w pair rest past) ∙ put-past cmp x v pair (put cmp y w rest) e))
      (λ e. ap (put cmp y w) (put-here cmp x v pair rest e) ∙ put-past cmp y w (x, v) rest less
      ∙ sym (ap (put cmp x v) (put-past cmp y w pair rest past) ∙ put-here cmp x v pair (put cmp y w rest) e))
      (λ e. ap (put cmp y w) (put-before cmp x v pair rest e) ∙ put-past cmp y w (x, v) (pair ∷ rest) less ∙ ap (λ l. (x, v) ∷ l) (put-past cmp y w pair rest past)
      ∙ sym (ap (put cmp x v) (put-past cmp y w pair rest past) ∙ put-before cmp x v pair (put cmp y w rest) e)))
      (λ here. let e : cmp pair.0 x ≡ Greater = total.congr pair.0 y x here ∙ above_lesser total x y less in
      ap (put cmp y w) (put-before cmp x v pair rest e) ∙ put-past cmp y w (x, v) (pair ∷ rest) less ∙ ap (λ l. (x, v) ∷ l) (put-here cmp y w pair rest here)
      ∙ sym (ap (put cmp x v) (put-here cmp y w pair rest here) ∙ put-before cmp x v (y, w) rest (above_lesser total x y less)))
      (λ before. let e : cmp pair.0 x ≡ Greater = above_lesser total x pair.0 (total.trans x y pair.0 less (below_greater total pair.0 y before)) in
      ap (put cmp y w) (put-before cmp x v pair rest e) ∙ put-past cmp y w (x, v) (pair ∷ rest) less ∙ ap (λ l. (x, v) ∷ l) (put-before cmp y w pair rest before)
      ∙ sym (ap (put cmp x v) (put-before cmp y w pair rest before) ∙ put-before cmp x v (y, w) (pair ∷ rest) (above_lesser total x y less)))

  pub put_twice : (pairs : List (K × T)) (x y : K) (v w : T) → is_eq (cmp x y) ≡ false → put cmp y w (put cmp x v pairs) ≡ put cmp x v (put cmp y w pairs)
  put_twice pairs x y v w apart = by_ordering (cmp x y)
      (λ less. in_order x y v w pairs less)
      (λ tied. absurd (false≢true (sym apart ∙ ap is_eq tied)))
      (λ more. sym (in_order y x w v pairs (below_greater total x y more)))
