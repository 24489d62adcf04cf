use Rattle.object_programs.proofs.Falling.{GrowTouches, touches_stay}
use Rattle.object_programs.proofs.Objects.{StaysFixed, StaysSound, parts_stay, soundness_stays}
use Rattle.object_programs.proofs.Reach.{StaysInReach, reach_stays}
use Rattle.object_programs.proofs.Told.{StaysTold, told_stays}
use Rattle.gem_language.proofs.Lists.{listed, next_grows, few_drawn}
use Rattle.gem_language.proofs.laws.keeps.Goals as goal

pub returns-clause-sound : goal.returns-clause-sound
returns-clause-sound c commands setting world sound =
    listed setting (StaysSound setting) (soundness_stays setting) commands world sound

pub returns-clause-fixed_parts : goal.returns-clause-fixed_parts
returns-clause-fixed_parts c commands setting world free =
    (listed setting (StaysFixed setting) (parts_stay setting) commands world free).1

pub returns-clause-reach : goal.returns-clause-reach
returns-clause-reach c commands setting world reach =
    listed setting (StaysInReach setting) (reach_stays setting) commands world reach

pub returns-clause-touches : goal.returns-clause-touches
returns-clause-touches c commands setting world = listed setting GrowTouches (touches_stay setting) commands world

pub returns-clause-next : goal.returns-clause-next
returns-clause-next c commands setting world = next_grows commands setting world

pub returns-clause-drawn : goal.returns-clause-drawn
returns-clause-drawn c commands setting world = few_drawn commands setting world

pub returns-clause-updates : goal.returns-clause-updates
returns-clause-updates c commands setting world tells =
    listed setting (StaysTold setting) (told_stays setting) commands world tells
