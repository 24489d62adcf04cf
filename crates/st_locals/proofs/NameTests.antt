-- What the names of the language stand for, test by test.
use Rattle.std.proofs.Common.{◌≡◌, refl, true, false, bytes_eq, codes, List}
use Rattle.gem_object.specs.texts.Bytes.{Bytes as Text}
use Rattle.tree_meaning.specs.Names.{where_is, is_super, variable_in}
use Rattle.tree_meaning.specs.declared.name.Singleton.TheVariants as singleton
use Rattle.tree_meaning.specs.declared.name.Where.TheVariants.{Receiver, Fixed}

module _ (name : Text) (names : List (List Text)) where
  -- the receiver
  pub means_self : bytes_eq name (codes "self") ≡ true → where_is name names ≡ Receiver
  unfolding where_is
  means_self self = rw self refl

  -- the receiver too
  pub means_super : bytes_eq name (codes "self") ≡ false → is_super name ≡ true → where_is name names ≡ Receiver
  unfolding where_is
  means_super not_self super = rw (not_self, super) refl

  -- nil
  pub means_nil : bytes_eq name (codes "self") ≡ false → is_super name ≡ false → bytes_eq name (codes "nil") ≡ true
      → where_is name names ≡ Fixed singleton.Nil
  unfolding where_is
  means_nil not_self not_super nil = rw (not_self, not_super, nil) refl

  -- true
  pub means_true : bytes_eq name (codes "self") ≡ false → is_super name ≡ false → bytes_eq name (codes "nil") ≡ false
      → bytes_eq name (codes "true") ≡ true → where_is name names ≡ Fixed singleton.True
  unfolding where_is
  means_true not_self not_super not_nil yes_true = rw (not_self, not_super, not_nil, yes_true) refl

  -- false
  pub means_false : bytes_eq name (codes "self") ≡ false → is_super name ≡ false → bytes_eq name (codes "nil") ≡ false
      → bytes_eq name (codes "true") ≡ false → bytes_eq name (codes "false") ≡ true → where_is name names ≡ Fixed singleton.False
  unfolding where_is
  means_false not_self not_super not_nil not_true yes_false = rw (not_self, not_super, not_nil, not_true, yes_false) refl

  -- any other name is looked for among the variables
  pub means_variable : bytes_eq name (codes "self") ≡ false → is_super name ≡ false → bytes_eq name (codes "nil") ≡ false
      → bytes_eq name (codes "true") ≡ false → bytes_eq name (codes "false") ≡ false
      → where_is name names ≡ variable_in name names
  unfolding where_is
  means_variable not_self not_super not_nil not_true not_false = rw (not_self, not_super, not_nil, not_true, not_false) refl

pub ruleset names_mean = (means_self, means_super, means_nil, means_true, means_false, means_variable)
