pub use Rattle.running_objects.specs as running_objects
pub use Rattle.object_programs.specs as object_programs
pub use Rattle.object_programs.specs.gem_world as gem_world
pub use Rattle.gem_sound.specs.gem_image as gem_image
pub use Rattle.gem_object.specs as gem_object
pub use Rattle.gem_object.specs.texts as texts
pub use Rattle.gem_object.specs.insertion_map as insertion_map
pub use Rattle.gem_object.specs.gem_value as gem_value
pub use Rattle.gem_object.specs.rc_counter_bag as rc_counter_bag
pub use Rattle.gem_object.specs.rc_dict as rc_dict
pub use Rattle.gem_object.specs.rc_queue as rc_queue
pub use Rattle.gem_object.specs.seg_rights as seg_rights
pub use Rattle.gem_sound.specs.radix_pages as radix_pages
pub use Rattle.gem_update.specs as gem_update
pub use Rattle.gem_sound.specs as gem_sound
pub use Rattle.gem_sound.specs.st_grammar_laws as st_grammar_laws
pub use Rattle.gem_sound.specs.st_grammar as st_grammar
pub use Rattle.gem_sound.specs.st_tree as st_tree
pub use Rattle.gem_sound.specs.op_table as op_table
pub use Rattle.prim_rules.specs as prim_rules
pub use Rattle.tree_meaning.specs as tree_meaning
pub mod Does
pub mod Edits
pub mod Entering
pub mod Limits
pub mod Walks
pub mod Reached
