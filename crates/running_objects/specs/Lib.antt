pub use Rattle.object_programs.specs as object_programs
pub use Rattle.object_programs.specs.gem_world as gem_world
pub use Rattle.object_programs.specs.gem_image as gem_image
pub use Rattle.gem_object.specs as gem_object
pub use Rattle.gem_object.specs.texts as texts
pub use Rattle.gem_object.specs.insertion_map as insertion_map
pub use Rattle.gem_object.specs.gem_value as gem_value
pub use Rattle.gem_object.specs.rc_counter_bag as rc_counter_bag
pub use Rattle.gem_object.specs.rc_dict as rc_dict
pub use Rattle.gem_object.specs.rc_queue as rc_queue
pub use Rattle.gem_object.specs.seg_rights as seg_rights
pub use Rattle.object_programs.specs.radix_pages as radix_pages
pub use Rattle.gem_update.specs as gem_update
pub use Rattle.object_programs.specs.gem_sound as gem_sound
pub use Rattle.object_programs.specs.st_grammar_laws as st_grammar_laws
pub use Rattle.object_programs.specs.st_grammar as st_grammar
pub use Rattle.object_programs.specs.st_tree as st_tree
pub use Rattle.object_programs.specs.op_table as op_table
pub mod Seen
pub mod Ran
pub mod Acted
pub mod Codes
pub mod Fitting
