-- What the set-up does.
use Rattle.std.proofs.Common.{◌≡◌, pos, false, [], ◌∷◌, filter, refl, option_map}
use Rattle.gem_meaning.specs.gem_image.Image.{Objects, contents_of}
use Rattle.gem_meaning.specs.tree_meaning.Place.{MadeBlock}
use Rattle.gem_meaning.specs.gem_language.Commands.{Reply, chunk_reply}
use Rattle.kernel_image.specs.Objects.{kernel_objects}
use Rattle.gem_server.proofs.ChunkWords.{chunk_words}
use Rattle.gem_server.specs.Rounds.{hits, names, hits_contents, names_contents, globals_contents}
use Rattle.gem_server.proofs.LoadTrees.{setup_tree}
use Rattle.gem_server.proofs.PlainWorlds.{PlainSetting, PlainOutcome, plain_drawn, plain_perform}
use Rattle.gem_server.proofs.SameWorlds.{nothing_done, begin_plain}
use Rattle.gem_server.proofs.RunRecords.{put_all, plain_made, plain_written}

abbrev pub kernel_shown : Objects
kernel_shown name = option_map contents_of (kernel_objects name)

abbrev pub setup_setting : PlainSetting
setup_setting = record { place = kernel_shown; view = kernel_shown; user = 32; serial = 1; first = 1 }

abbrev pub after_setup : PlainOutcome MadeBlock Reply
after_setup = plain_perform (chunk_reply false setup_tree) setup_setting (begin_plain (nothing_done 1 (plain_drawn setup_setting 1)))

pub setup_next : after_setup.state.world.next ≡ 3
unfolding chunk_words
setup_next = refl

pub setup_written : filter (plain_written after_setup.state.world) (put_all after_setup.state.world.log) ≡ (27, globals_contents) ∷ []
unfolding chunk_words
setup_written = refl

pub setup_made : filter (plain_made after_setup.state.world) (put_all after_setup.state.world.log)
    ≡ (hits, hits_contents (pos 0)) ∷ (names, names_contents []) ∷ []
unfolding chunk_words
setup_made = refl

pub setup_updates : after_setup.state.world.updates ≡ []
unfolding chunk_words
setup_updates = refl
