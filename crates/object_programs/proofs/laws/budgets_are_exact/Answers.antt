use Rattle.object_programs.proofs.Exact as exact
use Rattle.object_programs.proofs.laws.budgets_are_exact.Goals as goal

pub returns-clause-names : goal.returns-clause-names
returns-clause-names c = exact.names_left

pub returns-clause-names_used_up : goal.returns-clause-names_used_up
returns-clause-names_used_up c = exact.names_used_up

pub returns-clause-unit : goal.returns-clause-unit
returns-clause-unit c = exact.tick_done

pub returns-clause-no_unit : goal.returns-clause-no_unit
returns-clause-no_unit c = exact.no_unit

pub returns-clause-room : goal.returns-clause-room
returns-clause-room c = exact.room_done

pub returns-clause-no_room : goal.returns-clause-no_room
returns-clause-no_room c = exact.no_room

pub returns-clause-show : goal.returns-clause-show
returns-clause-show c = exact.show_done

pub returns-clause-show_long : goal.returns-clause-show_long
returns-clause-show_long c = exact.show_long

pub returns-clause-show_no_room : goal.returns-clause-show_no_room
returns-clause-show_no_room c = exact.show_no_room
