pub use Rattle.gem_world.specs as gem_world
pub use Rattle.gem_world.specs.gem_image as gem_image
pub use Rattle.gem_object.specs as gem_object
pub use Rattle.gem_object.specs.texts as texts
pub use Rattle.gem_object.specs.insertion_map as insertion_map
pub use Rattle.gem_object.specs.gem_value as gem_value
pub use Rattle.gem_object.specs.rc_counter_bag as rc_counter_bag
pub use Rattle.gem_object.specs.rc_dict as rc_dict
pub use Rattle.gem_object.specs.rc_queue as rc_queue
pub use Rattle.gem_object.specs.seg_rights as seg_rights
pub use Rattle.gem_world.specs.radix_pages as radix_pages
pub use Rattle.gem_world.specs.gem_update as gem_update
pub use Rattle.gem_sound.specs as gem_sound
pub use Rattle.gem_sound.specs.st_grammar_laws as st_grammar_laws
pub use Rattle.gem_sound.specs.st_grammar as st_grammar
pub use Rattle.gem_sound.specs.st_tree as st_tree
pub use Rattle.gem_sound.specs.op_table as op_table
pub mod Fault
pub mod Budget
pub mod Local
pub mod Fixed
pub mod Spelled
pub mod Methods
pub mod Guard
pub mod Atom
pub mod Run
pub mod Programs
pub mod Steps
pub mod Laws
pub use Rattle.gem_sound.specs.Kernel
pub use Rattle.gem_sound.specs.Sound
