-- The heads of parts as the code has them.
use Rattle.abc_text_lines.specs.Lineforms as forms
use Rattle.abc_text_operands.specs.declared.lines.MethodHead.{MethodHead}
use Rattle.abc_text_operands.specs.declared.lines.InstanceHead.{InstanceHead}
use Rattle.abc_text_operands.specs.declared.lines.BodyHead.{BodyHead}

-- what a method's own line says, as the definitions have it
abbrev pub as_method : MethodHead → forms.MethodHead
as_method m = record { ret = m.ret; name = m.name; flags = m.flags }

-- what an instance's own line says, as the definitions have it
abbrev pub as_instance : InstanceHead → forms.InstanceHead
as_instance i = record { name = i.name; super_name = i.super_name; flags = i.flags }

-- what a body's own line says, as the definitions have it
abbrev pub as_body : BodyHead → forms.BodyHead
as_body b = record { method = b.method; max_stack = b.max_stack; local_count = b.local_count; init_scope = b.init_scope; max_scope = b.max_scope }
