-- The words that an answer opens to compute what a chunk of a load does: `unfolding chunk_words`.
use Rattle.kernel_image.specs.Methods.{methods_of_class, methods_of_identity_dictionary, methods_of_rc_counter, methods_of_rc_identity_bag}
use Rattle.kernel_image.specs.Objects.{protocols, other_entries, globals_entries, users_entries, class_list, shared_objects, profiles, last_objects, kernel_list}
use Rattle.gem_meaning.specs.gem_language.LookUp.{up_classes, find_method}
use Rattle.gem_meaning.specs.gem_language.OutOfScope.{instance_names, find_global, global_value, read_out_of_scope}
use Rattle.gem_meaning.specs.gem_language.Sends.{send_by, outside, chunk_value}
use Rattle.gem_meaning.specs.tree_meaning.Bodies.{chunk_body}
use Rattle.gem_meaning.specs.tree_meaning.Calls.{activation}
use Rattle.gem_meaning.specs.tree_meaning.Forms.{form_of, loop_of}
use Rattle.gem_meaning.specs.tree_meaning.Names.{where_is}
use Rattle.gem_meaning.specs.tree_meaning.Scopes.{close_scope}
use Rattle.gem_meaning.specs.prim_rules.FirstRules.{first_rule}
use Rattle.gem_meaning.specs.prim_rules.LaterRules.{later_rule}
use Rattle.gem_meaning.specs.prim_rules.Parts.{named_slots, default_segment, new_object_in, new_object}
use Rattle.gem_meaning.specs.prim_rules.Rules.{rule_of}
use Rattle.gem_meaning.specs.object_programs.Fixed.{same_fixed}
use Rattle.gem_meaning.specs.object_programs.Guard.{names_at, fits, line_at}
use Rattle.gem_meaning.specs.object_programs.Methods.{is_source_of}
use Rattle.gem_meaning.specs.object_programs.Programs.{classes_above, replace_body, update}
use Rattle.gem_meaning.specs.object_programs.Spelled.{is_spelled}
use Rattle.gem_meaning.specs.gem_sound.Kernel.{kernel_classes, class_numbers, subclasses, of_kind, kernel_bodies}

unfoldable pub kernel_lists : Unit {0}
unfolding protocols other_entries globals_entries users_entries class_list shared_objects profiles last_objects kernel_list
kernel_lists = tt

unfoldable pub kernel_classes_and_methods : Unit {0}
unfolding kernel_classes class_numbers subclasses of_kind kernel_bodies methods_of_class methods_of_identity_dictionary
kernel_classes_and_methods = tt

unfoldable pub load_methods : Unit {0}
unfolding methods_of_rc_counter methods_of_rc_identity_bag
load_methods = tt

unfoldable pub sends : Unit {0}
unfolding up_classes find_method instance_names find_global global_value read_out_of_scope send_by outside chunk_value
sends = tt

unfoldable pub trees : Unit {0}
unfolding chunk_body activation form_of loop_of where_is close_scope
trees = tt

unfoldable pub rules : Unit {0}
unfolding first_rule later_rule rule_of named_slots default_segment new_object_in new_object
rules = tt

unfoldable pub changes : Unit {0}
unfolding same_fixed names_at fits line_at is_source_of classes_above replace_body update is_spelled
changes = tt

unfoldable pub chunk_words : Unit {0}
unfolding kernel_lists kernel_classes_and_methods load_methods sends trees rules changes
chunk_words = tt
