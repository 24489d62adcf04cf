use Rattle.std.proofs.Common.{◌≡◌, ℕ, sym, ap}
use Rattle.gem_server.specs.Devices.{seen, IsUnused}
use Rattle.gemstone.proofs.serving.serve.Goals as goal

-- a device that stayed as it was
untouched : {A T : Type 0} (shows : A → T) (faults : A → ℕ) (before after : A) → after ≡ before
    → IsUnused (seen shows faults before after)
untouched shows faults before after same = record {
  same = ap shows same;
  quiet = ap faults same;
}

pub returns : goal.returns
returns g c =
    let ends = c.gemstone.ensures in
    let disk = seen g.D.Disk.past g.D.Disk.faults c.args.disk c.gemstone.result.disk in
    let source = untouched g.S.Source.left g.S.Source.faults c.args.source.now c.gemstone.new.source in
    let sink = untouched g.K.Sink.written g.K.Sink.faults c.args.sink.now c.gemstone.new.sink in
    rw (sym c.own_words.ensures) (
      c.gemstone.result.status,
      record {
        usage = ends.usage;
        unused = λ none. (source (ends.unused none).0, sink (ends.unused none).1);
        alone = λ asks. (c.gemstone.result.events, (c.gemstone.result.book, (ends.alone asks).0));
        store = λ asks. (disk, (c.gemstone.result.events, (c.gemstone.result.book, ends.store asks)));
        init = λ asks. (source (ends.init asks).1, (disk, (ends.init asks).0));
        check = λ asks. (source (ends.check asks).1, (disk, (ends.check asks).0));
        demo = λ seed sessions rounds asks. (
          source (ends.demo seed sessions rounds asks).1,
          (c.gemstone.result.events, (c.gemstone.result.book, (ends.demo seed sessions rounds asks).0)),
        );
      },
      c.end_of.ensures,
    )
