-- Messages that sequences answer by primitives of elements.
use Rattle.std.specs.Prelude.{ℕ, codes}
use Rattle.gem_object.specs.texts.Bytes.{Bytes}
use Rattle.look_up_cache.specs.declared.element_message.ElementMessage.{ElementMessage}
use Rattle.look_up_cache.specs.declared.element_message.ElementMessage.TheVariants.{At, AtPut}

-- the selector of a message
abbrev pub element_selector : ElementMessage → Bytes
element_selector At = codes "at:"
element_selector AtPut = codes "at:put:"

-- the number of the primitive by which the kernel's sequences answer it
abbrev pub element_number : ElementMessage → ℕ
element_number At = 34
element_number AtPut = 35

-- how many arguments it has
abbrev pub element_count : ElementMessage → ℕ
element_count At = 1
element_count AtPut = 2
