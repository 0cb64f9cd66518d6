-- The element that a text names on an object, as code answers it.
use Rattle.std.specs.Prelude.{Some, None, if◌then◌else◌}
use Rattle.std.specs.declared.option.Option.{Option}
use Rattle.abc_heap_values.specs.declared.values.ObjId.{ObjId}
use Rattle.abc_heap_values.specs.declared.values.Span.{Span}
use Rattle.abc_heap_store.specs.Heap.{Heap, object_at}
use Rattle.abc_heap_store.specs.Texts.{text_of}
use Rattle.abc_heap_store.specs.What.{is_array}
use Rattle.abc_lookup.specs.declared.elements.ElementName as declared
use Rattle.abc_lookup.specs.declared.elements.ElementName.TheVariants as variants
use Rattle.abc_link_names.specs.Linked.{LinkedFile}
use Rattle.abc_objects.specs.ElementNames.{ElementName, IsLength, IsNumber, element_name}

abbrev pub element_name_of : declared.ElementName → ElementName
element_name_of variants.Length = IsLength
element_name_of (variants.Number k) = IsNumber k

-- the element name that code answers, if it answers one
abbrev pub element_in : Option declared.ElementName → Option ElementName
element_in None = None
element_in (Some e) = Some (element_name_of e)

-- only arrays have elements
abbrev pub element_name_on : LinkedFile → Heap → ObjId → Span → Option ElementName
element_name_on l h o text = if is_array (object_at h.objects o.0).what then element_name (text_of l.file.strings h text) else None
