-- Codes of places, frames, blocks and variables, by which types that are seen as such can be told
-- apart.
use Rattle.std.specs.Prelude.{ℕ, Bool, List, refl}
use Rattle.std.specs.Coded.{Coded, code_by, coded×, coded_ℕ, coded_bool, coded_list}
use Rattle.gem_object.specs.texts.Bytes.{Bytes as Text}
use Rattle.st_tree.specs.Trees.{Closure}
use Rattle.st_tree.specs.Codes.{closure_code}
use Rattle.gem_object.specs.declared.value.Value.{Value}
use Rattle.tree_meaning.specs.object_programs.Local.{Local}
use Rattle.tree_meaning.specs.Place.{Place, Frame, MadeBlock}
use Rattle.tree_meaning.specs.declared.place.Mark.{Mark}

abbrev pub place_code : Coded Place
place_code = code_by (List (List Text) × Bool)
    (coded× (coded_list (coded_list (coded_list coded_ℕ))) coded_bool)
    (λ place. (place.names, place.in_block))
    (λ parts. record { names = parts.0; in_block = parts.1 })
    (λ _. refl)

-- a frame, by the codes of values and of marks
abbrev pub frame_code : Coded Value → Coded Mark → Coded Frame
frame_code value mark = code_by (List Mark × (Value × (ℕ × (ℕ × Bool))))
    (coded× (coded_list mark) (coded× value (coded× coded_ℕ (coded× coded_ℕ coded_bool))))
    (λ frame. (frame.scopes, (frame.receiver, (frame.home, (frame.holder, frame.class_side)))))
    (λ parts. record {
      scopes = parts.0;
      receiver = parts.1.0;
      home = parts.1.1.0;
      holder = parts.1.1.1.0;
      class_side = parts.1.1.1.1;
    })
    (λ _. refl)

abbrev pub made_block_code : Coded Value → Coded Mark → Coded MadeBlock
made_block_code value mark = code_by (Closure × (Place × Frame))
    (coded× closure_code (coded× place_code (frame_code value mark)))
    (λ made. (made.tree, (made.place, made.frame)))
    (λ parts. record { tree = parts.0; place = parts.1.0; frame = parts.1.1 })
    (λ _. refl)

abbrev pub local_code : Coded Value → Coded Mark → Coded (Local MadeBlock)
local_code value mark = code_by (List (List Value) × (List MadeBlock × List Bool))
    (coded× (coded_list (coded_list value))
    (coded× (coded_list (made_block_code value mark)) (coded_list coded_bool)))
    (λ local. (local.scopes, (local.blocks, local.living)))
    (λ parts. record { scopes = parts.0; blocks = parts.1.0; living = parts.1.1 })
    (λ _. refl)
