use Rattle.look_up_cache.proofs.element_message.remember_element.Goals as goal

pub returns-in-Some-clause-holds : goal.returns-in-Some-clause-holds
returns-in-Some-clause-holds g c = λ seen holds. record {
  receivers = c.put_receiver.ensures seen (c.in-Some.ensures seen holds) holds.receivers;
  methods = holds.methods;
  variables = holds.variables;
  counts = holds.counts;
  operators = holds.operators;
}
