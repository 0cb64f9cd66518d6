-- A sound world knows the names of the host's formulas alone.
use Rattle.std.proofs.Common.{ℕ, List, ◌∙◌}
use Rattle.abc_base.specs.declared.formula.Formula.{Formula}
use Rattle.abc_heap_store.specs.Heap.{Heap, Object}
use Rattle.abc_heap_store.specs.declared.records.What.{What}
use Rattle.abc_heap_store.specs.declared.records.What.TheVariants as whats
use Rattle.abc_link_names.specs.Linked.{LinkedFile}
use Rattle.abc_meaning.specs.Setting.{Setting}
use Rattle.abc_meaning.specs.Sound.{ObjectSound, WhatSound}
use Rattle.abc_meaning_sound.specs.CallLaws.{NamesAloneMatter}

module _ (l : LinkedFile) (fs gs : List Formula) where
  abbrev one : Setting
  one = record { linked = l; formulas = fs }

  abbrev other : Setting
  other = record { linked = l; formulas = gs }

  what_on : (h : Heap) (x : ℕ) (what : What) → WhatSound one h x what → WhatSound other h x what
  what_on h x (whats.Closure n home scope bound) s = record { routine = s.routine; body = s.body; bound_to = s.bound_to }
  what_on h x (whats.ClassObject k home statics instances) s = s
  what_on h x what s = cc

  object_on : (h : Heap) (ob : Object) → ObjectSound one h ob → ObjectSound other h ob
  object_on h ob s = record { slots = s.slots; what = what_on h ob.layout ob.what s.what; part = s.part; first_of = s.first_of }

pub names_matter : NamesAloneMatter
names_matter l fs gs w e z = record {
  stands = z.stands;
  objects = λ o ob at. object_on l fs gs w.heap ob (z.objects o ob at);
  formulas = z.formulas ∙ e;
  scripts = z.scripts;
  within = z.within;
}
