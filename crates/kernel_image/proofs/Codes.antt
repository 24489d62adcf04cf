-- The methods of the kernel's classes do what they may, class by class.
use Rattle.std.proofs.Common.{◌≡◌, ℕ, ◌+◌, true, false, List, [], ◌∷◌, All, refl}
use Rattle.std.proofs.lemmas.List.Elements.{All-nil}
use Rattle.op_table.specs.Prims.{prim_at, primitives}
use Rattle.gem_sound.specs.st_grammar.Lexed.{tokens_of}
use Rattle.gem_sound.specs.st_grammar_laws.TreeOf.{tree_of}
use Rattle.gem_object.specs.declared.body.Method.{Method}
use Rattle.gem_sound.specs.Kernel.{may_stand}
use Rattle.gem_sound.specs.Sound.{IsMethodOf}
use Rattle.kernel_image.specs.Methods.{methods_of_object, methods_of_class, methods_of_undefined_object, methods_of_boolean, methods_of_true, methods_of_false, methods_of_magnitude, methods_of_character, methods_of_small_integer, methods_of_block, methods_of_collection, methods_of_sequenceable_collection, methods_of_array, methods_of_ordered_collection, methods_of_string, methods_of_symbol, methods_of_identity_dictionary, methods_of_rc_counter, methods_of_rc_identity_bag, methods_of_rc_key_value_dictionary, methods_of_rc_queue, methods_of_segment, methods_of_user_profile, methods_of_transcript_stream, class_side_of_user_profile, class_side_of_system}
use Rattle.kernel_image.specs.Objects.{Protocol, protocols}
use Rattle.kernel_image.proofs.Sources.{methods_test, methods_tell}

-- the methods of a class do what they may
pub record HasCodes (class : ℕ) (protocol : Protocol) : Type 0 where
  pub instances : All (IsMethodOf class false) protocol.methods
  pub class_side : All (IsMethodOf class true) protocol.class_methods

-- so do those of these classes, whose numbers count from one on
abbrev pub HaveCodes : ℕ → List Protocol → Type 0
HaveCodes first [] = Unit {0}
HaveCodes first (protocol ∷ rest) = HasCodes first protocol × HaveCodes (first + 1) rest

-- a class without methods of its own
instances_only : (class : ℕ) (methods : List Method) → methods_test class false methods ≡ true
    → HasCodes class (record { methods = methods; class_methods = [] })
instances_only class methods passed = record {
  instances = methods_tell class false methods passed;
  class_side = All-nil (IsMethodOf class true);
}

codes_of_object : HasCodes 1 (record { methods = methods_of_object; class_methods = [] })
unfolding methods_of_object tree_of tokens_of may_stand prim_at primitives
codes_of_object = instances_only 1 methods_of_object refl

codes_of_class : HasCodes 2 (record { methods = methods_of_class; class_methods = [] })
unfolding methods_of_class tree_of tokens_of may_stand prim_at primitives
codes_of_class = instances_only 2 methods_of_class refl

codes_of_undefined_object : HasCodes 3 (record { methods = methods_of_undefined_object; class_methods = [] })
unfolding methods_of_undefined_object tree_of tokens_of may_stand prim_at primitives
codes_of_undefined_object = instances_only 3 methods_of_undefined_object refl

codes_of_boolean : HasCodes 4 (record { methods = methods_of_boolean; class_methods = [] })
unfolding methods_of_boolean tree_of tokens_of may_stand prim_at primitives
codes_of_boolean = instances_only 4 methods_of_boolean refl

codes_of_true : HasCodes 5 (record { methods = methods_of_true; class_methods = [] })
unfolding methods_of_true tree_of tokens_of may_stand prim_at primitives
codes_of_true = instances_only 5 methods_of_true refl

codes_of_false : HasCodes 6 (record { methods = methods_of_false; class_methods = [] })
unfolding methods_of_false tree_of tokens_of may_stand prim_at primitives
codes_of_false = instances_only 6 methods_of_false refl

codes_of_magnitude : HasCodes 7 (record { methods = methods_of_magnitude; class_methods = [] })
unfolding methods_of_magnitude tree_of tokens_of may_stand prim_at primitives
codes_of_magnitude = instances_only 7 methods_of_magnitude refl

codes_of_character : HasCodes 8 (record { methods = methods_of_character; class_methods = [] })
unfolding methods_of_character tree_of tokens_of may_stand prim_at primitives
codes_of_character = instances_only 8 methods_of_character refl

codes_of_small_integer : HasCodes 9 (record { methods = methods_of_small_integer; class_methods = [] })
unfolding methods_of_small_integer tree_of tokens_of may_stand prim_at primitives
codes_of_small_integer = instances_only 9 methods_of_small_integer refl

codes_of_block : HasCodes 10 (record { methods = methods_of_block; class_methods = [] })
unfolding methods_of_block tree_of tokens_of may_stand prim_at primitives
codes_of_block = instances_only 10 methods_of_block refl

codes_of_collection : HasCodes 11 (record { methods = methods_of_collection; class_methods = [] })
unfolding methods_of_collection tree_of tokens_of may_stand prim_at primitives
codes_of_collection = instances_only 11 methods_of_collection refl

codes_of_sequenceable_collection : HasCodes 12 (record { methods = methods_of_sequenceable_collection; class_methods = [] })
unfolding methods_of_sequenceable_collection tree_of tokens_of may_stand prim_at primitives
codes_of_sequenceable_collection = instances_only 12 methods_of_sequenceable_collection refl

codes_of_array : HasCodes 13 (record { methods = methods_of_array; class_methods = [] })
unfolding methods_of_array tree_of tokens_of may_stand prim_at primitives
codes_of_array = instances_only 13 methods_of_array refl

codes_of_ordered_collection : HasCodes 14 (record { methods = methods_of_ordered_collection; class_methods = [] })
unfolding methods_of_ordered_collection tree_of tokens_of may_stand prim_at primitives
codes_of_ordered_collection = instances_only 14 methods_of_ordered_collection refl

codes_of_string : HasCodes 15 (record { methods = methods_of_string; class_methods = [] })
unfolding methods_of_string tree_of tokens_of may_stand prim_at primitives
codes_of_string = instances_only 15 methods_of_string refl

codes_of_symbol : HasCodes 16 (record { methods = methods_of_symbol; class_methods = [] })
unfolding methods_of_symbol tree_of tokens_of may_stand prim_at primitives
codes_of_symbol = instances_only 16 methods_of_symbol refl

codes_of_identity_dictionary : HasCodes 17 (record { methods = methods_of_identity_dictionary; class_methods = [] })
unfolding methods_of_identity_dictionary tree_of tokens_of may_stand prim_at primitives
codes_of_identity_dictionary = instances_only 17 methods_of_identity_dictionary refl

codes_of_symbol_dictionary : HasCodes 18 (record { methods = []; class_methods = [] })
unfolding may_stand
codes_of_symbol_dictionary = instances_only 18 [] refl

codes_of_rc_counter : HasCodes 19 (record { methods = methods_of_rc_counter; class_methods = [] })
unfolding methods_of_rc_counter tree_of tokens_of may_stand prim_at primitives
codes_of_rc_counter = instances_only 19 methods_of_rc_counter refl

codes_of_rc_identity_bag : HasCodes 20 (record { methods = methods_of_rc_identity_bag; class_methods = [] })
unfolding methods_of_rc_identity_bag tree_of tokens_of may_stand prim_at primitives
codes_of_rc_identity_bag = instances_only 20 methods_of_rc_identity_bag refl

codes_of_rc_key_value_dictionary : HasCodes 21 (record { methods = methods_of_rc_key_value_dictionary; class_methods = [] })
unfolding methods_of_rc_key_value_dictionary tree_of tokens_of may_stand prim_at primitives
codes_of_rc_key_value_dictionary = instances_only 21 methods_of_rc_key_value_dictionary refl

codes_of_rc_queue : HasCodes 22 (record { methods = methods_of_rc_queue; class_methods = [] })
unfolding methods_of_rc_queue tree_of tokens_of may_stand prim_at primitives
codes_of_rc_queue = instances_only 22 methods_of_rc_queue refl

codes_of_segment : HasCodes 23 (record { methods = methods_of_segment; class_methods = [] })
unfolding methods_of_segment tree_of tokens_of may_stand prim_at primitives
codes_of_segment = instances_only 23 methods_of_segment refl

codes_of_user_profile : HasCodes 24 (record { methods = methods_of_user_profile; class_methods = class_side_of_user_profile })
unfolding methods_of_user_profile class_side_of_user_profile tree_of tokens_of may_stand prim_at primitives
codes_of_user_profile = record {
  instances = methods_tell 24 false methods_of_user_profile refl;
  class_side = methods_tell 24 true class_side_of_user_profile refl;
}

codes_of_system : HasCodes 25 (record { methods = []; class_methods = class_side_of_system })
unfolding class_side_of_system tree_of tokens_of may_stand prim_at primitives
codes_of_system = record {
  instances = methods_tell 25 false [] refl;
  class_side = methods_tell 25 true class_side_of_system refl;
}

codes_of_transcript_stream : HasCodes 26 (record { methods = methods_of_transcript_stream; class_methods = [] })
unfolding methods_of_transcript_stream tree_of tokens_of may_stand prim_at primitives
codes_of_transcript_stream = instances_only 26 methods_of_transcript_stream refl

pub have_codes : HaveCodes 1 protocols
unfolding protocols
have_codes = (
  codes_of_object,
  (
    codes_of_class,
    (
      codes_of_undefined_object,
      (
        codes_of_boolean,
        (
          codes_of_true,
          (
            codes_of_false,
            (
              codes_of_magnitude,
              (
                codes_of_character,
                (
                  codes_of_small_integer,
                  (
                    codes_of_block,
                    (
                      codes_of_collection,
                      (
                        codes_of_sequenceable_collection,
                        (
                          codes_of_array,
                          (
                            codes_of_ordered_collection,
                            (
                              codes_of_string,
                              (
                                codes_of_symbol,
                                (
                                  codes_of_identity_dictionary,
                                  (
                                    codes_of_symbol_dictionary,
                                    (
                                      codes_of_rc_counter,
                                      (
                                        codes_of_rc_identity_bag,
                                        (
                                          codes_of_rc_key_value_dictionary,
                                          (codes_of_rc_queue, (codes_of_segment, (codes_of_user_profile, (codes_of_system, (codes_of_transcript_stream, tt))))),
                                        ),
                                      ),
                                    ),
                                  ),
                                ),
                              ),
                            ),
                          ),
                        ),
                      ),
                    ),
                  ),
                ),
              ),
            ),
          ),
        ),
      ),
    ),
  ),
)
