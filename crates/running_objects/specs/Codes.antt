-- Codes of what a state shows, by which types that are seen as such can be told apart.
use Rattle.std.specs.Prelude.{ℕ, List, refl}
use Rattle.std.specs.Coded.{Coded, code_by, coded×, coded_ℕ, coded_list}
use Rattle.std.specs.Ordering.{nat_cmp}
use Rattle.std.specs.FinMap.{FinMap, code}
use Rattle.gem_object.specs.texts.Bytes.{Bytes as Text}
use Rattle.gem_object.specs.declared.body.Body.{Body}
use Rattle.gem_object.specs.declared.object.Object.{Object}
use Rattle.gem_update.specs.declared.update.Update.{Update}
use Rattle.object_programs.specs.gem_image.Image.{Image, Contents}
use Rattle.object_programs.specs.gem_world.World.{Setting, World}
use Rattle.object_programs.specs.Budget.{Budget}
use Rattle.running_objects.specs.Seen.{Seen}

-- objects but for the number of the last commit, by the code of bodies
abbrev pub contents_code : Coded Body → Coded Contents
contents_code body = code_by (ℕ × (ℕ × Body)) (coded× coded_ℕ (coded× coded_ℕ body))
    (λ object. (object.class, (object.segment, object.body)))
    (λ parts. record { class = parts.0; segment = parts.1.0; body = parts.1.1 })
    (λ _. refl)

-- a setting, by the code of objects
abbrev pub setting_code : Coded Object → Coded Setting
setting_code object = code_by (Image × (Image × (ℕ × (ℕ × ℕ))))
    (coded× (code coded_ℕ object) (coded× (code coded_ℕ object)
    (coded× coded_ℕ (coded× coded_ℕ coded_ℕ))))
    (λ setting. (setting.place, (setting.view, (setting.user, (setting.serial, setting.first)))))
    (λ parts. record {
      place = parts.0;
      view = parts.1.0;
      user = parts.1.1.0;
      serial = parts.1.1.1.0;
      first = parts.1.1.1.1;
    })
    (λ _. refl)

-- a world, by the codes of bodies and of updates
abbrev pub world_code : Coded Body → Coded Update → Coded World
world_code body update =
    code_by (ℕ × (FinMap nat_cmp Contents × (List (ℕ × Update) × List ℕ)))
    (coded× coded_ℕ (coded× (code coded_ℕ (contents_code body))
    (coded× (coded_list (coded× coded_ℕ update)) (coded_list coded_ℕ))))
    (λ world. (world.next, (world.changes, (world.updates, world.touched))))
    (λ parts. record {
      next = parts.0;
      changes = parts.1.0;
      updates = parts.1.1.0;
      touched = parts.1.1.1;
    })
    (λ _. refl)

abbrev pub budget_code : Coded Budget
budget_code = code_by (ℕ × (ℕ × Text)) (coded× coded_ℕ (coded× coded_ℕ (coded_list coded_ℕ)))
    (λ budget. (budget.units, (budget.slots, budget.text)))
    (λ parts. record { units = parts.0; slots = parts.1.0; text = parts.1.1 })
    (λ _. refl)

-- what a state shows, by the codes of objects, bodies and updates
abbrev pub seen_code : Coded Object → Coded Body → Coded Update → Coded Seen
seen_code object body update = code_by (Setting × (World × Budget))
    (coded× (setting_code object) (coded× (world_code body update) budget_code))
    (λ seen. (seen.setting, (seen.world, seen.budget)))
    (λ parts. record { setting = parts.0; world = parts.1.0; budget = parts.1.1 })
    (λ _. refl)
