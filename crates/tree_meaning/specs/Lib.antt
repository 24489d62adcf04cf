pub use Rattle.object_programs.specs as object_programs
pub use Rattle.object_programs.specs.gem_world as gem_world
pub use Rattle.object_programs.specs.gem_image as gem_image
pub use Rattle.object_programs.specs.gem_object as gem_object
pub use Rattle.object_programs.specs.texts as texts
pub use Rattle.object_programs.specs.insertion_map as insertion_map
pub use Rattle.object_programs.specs.gem_value as gem_value
pub use Rattle.object_programs.specs.rc_counter_bag as rc_counter_bag
pub use Rattle.object_programs.specs.rc_dict as rc_dict
pub use Rattle.object_programs.specs.rc_queue as rc_queue
pub use Rattle.object_programs.specs.seg_rights as seg_rights
pub use Rattle.object_programs.specs.radix_pages as radix_pages
pub use Rattle.object_programs.specs.gem_update as gem_update
pub use Rattle.object_programs.specs.gem_sound as gem_sound
pub use Rattle.object_programs.specs.st_grammar_laws as st_grammar_laws
pub use Rattle.object_programs.specs.st_grammar as st_grammar
pub use Rattle.object_programs.specs.st_tree as st_tree
pub use Rattle.object_programs.specs.op_table as op_table
pub mod Place
pub mod Names
pub mod Forms
pub mod Operands
pub mod Scopes
pub mod Loops
pub mod Parts
pub mod Meaning
pub mod Bodies
pub mod Calls
pub mod Replies
pub mod Reading
pub mod Samples
