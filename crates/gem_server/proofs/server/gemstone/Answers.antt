use Rattle.std.proofs.Common.{◌∙◌, inl, inr, refl, sym, ap, map, string_bytes, rules}
use Rattle.program_words.specs.Asked.{serve_store, serve_load, files_of, asked_of}
use Rattle.program_words.specs.declared.words.Words.TheVariants.{Serve}
use Rattle.gem_server.specs.Demo.{IsLoad, Demos}
use Rattle.gem_server.specs.Devices.{seen}
use Rattle.gem_server.proofs.Demos.{of_same_load, load_in_words}
use Rattle.gem_server.proofs.server.gemstone.Goals as goal

pub returns-in-Ok-Serve-Some-clause-unused : goal.returns-in-Ok-Serve-Some-clause-unused
returns-in-Ok-Serve-Some-clause-unused g c = λ none.
    let asked = c.in-Ok-Serve-Some in
    absurd (none (inr (inl (
      files_of asked.field-0-0-0,
      (asked.ensures.read (serve_store (files_of asked.field-0-0-0))).0 (ap asked_of (asked.field-0-is ∙ ap Serve asked.field-0-0-is)),
    ))))

pub serve_demo-requires : goal.serve_demo-requires
serve_demo-requires g c =
    let asked = c.in-Ok-Demo in
    let r = c.type_bounds.sync-R in
    let h = c.type_bounds.sync-G in
    let load : IsLoad asked.seed asked.sessions asked.rounds =
    load_in_words (map string_bytes c.args.words.now) asked.seed asked.sessions asked.rounds
    ((asked.ensures.read (serve_load asked.seed asked.sessions asked.rounds)).0 (ap asked_of asked.field-0-is)) in
    search (rules, r, h, load)

pub returns-in-Ok-Demo-clause-unused : goal.returns-in-Ok-Demo-clause-unused
returns-in-Ok-Demo-clause-unused g c = λ none.
    let asked = c.in-Ok-Demo in
    absurd (none (inr (inr (inr (inr (
      asked.seed,
      (asked.sessions, (asked.rounds, (asked.ensures.read (serve_load asked.seed asked.sessions asked.rounds)).0 (ap asked_of asked.field-0-is))),
    ))))))

pub returns-in-Ok-Demo-clause-demo : goal.returns-in-Ok-Demo-clause-demo
returns-in-Ok-Demo-clause-demo g c = λ seed sessions rounds asks.
    let asked = c.in-Ok-Demo in
    let same = sym (ap asked_of asked.field-0-is) ∙ (asked.ensures.read (serve_load seed sessions rounds)).1 asks in (
      of_same_load (λ a b d. Demos a b d (seen g.K.Sink.written g.K.Sink.faults c.args.sink.now c.serve_demo.new.sink)
          c.serve_demo.result.status c.serve_demo.result.events c.serve_demo.result.book) asked.seed asked.sessions asked.rounds seed sessions rounds same
          c.serve_demo.ensures.demos,
      refl,
      c.serve_demo.ensures.disk,
    )
