use Rattle.history_laws.proofs.Views.{views_stay, number_stays, number_at_most}
use Rattle.history_laws.proofs.laws.views_stay.Goals as goal

pub returns-clause-image : goal.returns-clause-image
returns-clause-image c = λ t more number from to. views_stay t.opened t.events more number from to

pub returns-clause-number : goal.returns-clause-number
returns-clause-number c = λ t more. number_stays t.opened t.events more

pub returns-clause-most : goal.returns-clause-most
returns-clause-most c = number_at_most
