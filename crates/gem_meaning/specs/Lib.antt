pub use Rattle.gem_language.specs as gem_language
pub use Rattle.gem_language.specs.tree_meaning as tree_meaning
pub use Rattle.gem_language.specs.object_programs as object_programs
pub use Rattle.gem_record.specs.gem_world as gem_world
pub use Rattle.gem_record.specs.gem_image as gem_image
pub use Rattle.gem_object.specs as gem_object
pub use Rattle.gem_object.specs.texts as texts
pub use Rattle.gem_object.specs.insertion_map as insertion_map
pub use Rattle.gem_object.specs.gem_value as gem_value
pub use Rattle.gem_object.specs.rc_counter_bag as rc_counter_bag
pub use Rattle.gem_object.specs.rc_dict as rc_dict
pub use Rattle.gem_object.specs.rc_queue as rc_queue
pub use Rattle.gem_object.specs.seg_rights as seg_rights
pub use Rattle.gem_record.specs.radix_pages as radix_pages
pub use Rattle.gem_record.specs.gem_update as gem_update
pub use Rattle.gem_language.specs.gem_sound as gem_sound
pub use Rattle.gem_language.specs.st_grammar_laws as st_grammar_laws
pub use Rattle.gem_language.specs.st_grammar as st_grammar
pub use Rattle.gem_language.specs.st_tree as st_tree
pub use Rattle.gem_language.specs.op_table as op_table
pub use Rattle.gem_language.specs.prim_rules as prim_rules
pub use Rattle.commit_check.specs as commit_check
pub use Rattle.gem_record.specs as gem_record
pub use Rattle.lock_table.specs as lock_table
pub use Rattle.kept_set.specs as kept_set
pub use Rattle.gem_replies.specs as gem_replies
pub use Rattle.shell_words.specs as shell_words
pub mod Commands
pub mod Lines
pub mod Opened
pub mod Effect
pub mod Events
pub mod After
pub mod Serial
pub mod Names
pub mod State
pub mod Runs
pub mod Commits
pub mod Checkpoints
pub mod Locks
pub mod Session
pub mod Claims
pub mod Legal
