use Rattle.std.proofs.Common.{◌≡◌, ◌+◌, ◌^◌, ◌≤◌, ℕ, true, length, map}
use Rattle.std.specs.List.{list_all}
use Rattle.gem_object.specs.declared.object.Object.{Object}
use Rattle.object_programs.specs.gem_image.Image.{contents_of}
use Rattle.object_programs.specs.Guard.{all_fit}
use Rattle.object_programs.specs.Methods.{methods_fit}
use Rattle.object_guard.proofs.fitting.all_fit_in.Given as goal

-- the objects that are left fit from this number on exactly where all do
abbrev pub invariant-loop-object : goal.invariant-loop-object
invariant-loop-object g l = record {
  rest : all_fit (g.S.Sees.parts l.state) l.number (map contents_of l.rest)
      ≡ all_fit (g.S.Sees.parts l.state) l.first (map contents_of l.objects);
  methods : (name : ℕ) → list_all (λ (object : Object). methods_fit name object.body) l.rest ≡ true;
  names : l.number + length l.rest ≤ 2 ^ 48;
}

abbrev pub decreases-loop-object : goal.decreases-loop-object
decreases-loop-object g l = length l.rest
