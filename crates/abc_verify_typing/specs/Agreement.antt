-- The rows beside the file format's table of instructions: which opcodes have no row, and what a row asks of the operands.
use Rattle.std.specs.Prelude.{ℕ, zero, suc, ◌+◌, List, [], ◌∷◌, Bool, true, false, ◌&&◌, nat_eq}
use Rattle.std.specs.Prelude.{Some, None}
use Rattle.std.specs.declared.option.Option.{Option}
use Rattle.abc_file_types.specs.Opcodes.{info_at, is_in}
use Rattle.abc_file_types.specs.declared.opcodes.Form.{Form}
use Rattle.abc_file_types.specs.declared.opcodes.Form.TheVariants as forms
use Rattle.abc_file_types.specs.declared.opcodes.Pool.{Pool}
use Rattle.abc_file_types.specs.declared.opcodes.Pool.TheVariants as pools
use Rattle.abc_file_types.specs.declared.opcodes.OpInfo.{OpInfo}
use Rattle.abc_verify_typing.specs.Rows.{Shape, row_at}
use Rattle.abc_verify_typing.specs.declared.row.Operand.{Operand}
use Rattle.abc_verify_typing.specs.declared.row.Operand.TheVariants.{Unnamed, StringAt, IntAt, UintAt, DoubleAt, NamespaceAt, FunctionAt, ClassAt, HandlerAt, NameAt, PlainNameAt, TypeAt, TypeOrAny, ScopeAt}
use Rattle.abc_verify_typing.specs.declared.row.Locals.{Locals}
use Rattle.abc_verify_typing.specs.declared.row.Locals.TheVariants.{Untouched, Reads, Sets, Walks}
use Rattle.abc_verify_typing.specs.declared.row.Leads.{Leads}
use Rattle.abc_verify_typing.specs.declared.row.Leads.TheVariants.{Next, Branches, Jumps, Switches, Ends}
use Rattle.abc_file_types.specs.declared.op.TheConstants as op

-- the instructions that are not run: dxns, dxnslate, callmethod, callstatic, applytype, getdescendants, getglobalslot, setglobalslot,
-- esc_xelem, esc_xattr, checkfilter
abbrev pub not_run : List ℕ
not_run = op.DXNS ∷ op.DXNSLATE ∷ op.CALLMETHOD ∷ op.CALLSTATIC ∷ op.APPLYTYPE ∷ op.GETDESCENDANTS ∷ op.GETGLOBALSLOT ∷ op.SETGLOBALSLOT ∷ op.ESC_XELEM ∷ op.ESC_XATTR ∷ op.CHECKFILTER ∷ []

-- the pool that an operand names
abbrev pub pool_of_operand : Operand → Pool
pool_of_operand StringAt = pools.Text
pool_of_operand IntAt = pools.Int
pool_of_operand UintAt = pools.UInt
pool_of_operand DoubleAt = pools.Double
pool_of_operand NamespaceAt = pools.Space
pool_of_operand NameAt = pools.Name
pool_of_operand PlainNameAt = pools.Name
pool_of_operand TypeAt = pools.Name
pool_of_operand TypeOrAny = pools.Name
pool_of_operand operand = pools.NoPool

abbrev same_pool : Pool → Pool → Bool
same_pool pools.NoPool pools.NoPool = true
same_pool pools.Int pools.Int = true
same_pool pools.UInt pools.UInt = true
same_pool pools.Double pools.Double = true
same_pool pools.Text pools.Text = true
same_pool pools.Space pools.Space = true
same_pool pools.Name pools.Name = true
same_pool p q = false

-- what the operands are for; an instruction of one number names a thing, an amount of arguments, a local or a slot
abbrev names_nothing : Operand → Bool
names_nothing Unnamed = true
names_nothing operand = false

abbrev names_a_scope : Operand → Bool
names_a_scope ScopeAt = true
names_a_scope operand = false

abbrev walks : Locals → Bool
walks Walks = true
walks locals = false

abbrev leads_by_branch : Leads → Bool
leads_by_branch Branches = true
leads_by_branch Jumps = true
leads_by_branch leads = false

abbrev leads_by_switch : Leads → Bool
leads_by_switch Switches = true
leads_by_switch leads = false

abbrev leads_on : Leads → Bool
leads_on Next = true
leads_on Ends = true
leads_on leads = false

-- two numbers are a name and an amount of arguments, or two locals
abbrev takes_two : Shape → Locals → Bool
takes_two row Walks = names_nothing row.operand && nat_eq row.args 0
takes_two row Untouched = nat_eq row.args 1
takes_two row locals = false

-- one number is a name or an amount of arguments, and never both
abbrev takes_one : Shape → ℕ → Bool
takes_one row zero = true
takes_one row (suc n) = names_nothing row.operand

-- the operands that the row uses are those that the form gives
abbrev pub fits_form : Shape → Form → Bool
fits_form row forms.Plain = names_nothing row.operand && nat_eq row.args 0 && leads_on row.leads
fits_form row forms.One = takes_one row row.args && leads_on row.leads
fits_form row forms.Two = takes_two row row.locals && leads_on row.leads
fits_form row forms.Branch = names_nothing row.operand && nat_eq row.args 0 && leads_by_branch row.leads
fits_form row forms.Switch = names_nothing row.operand && nat_eq row.args 0 && leads_by_switch row.leads
fits_form row forms.Byte = names_nothing row.operand && nat_eq row.args 0 && leads_on row.leads
fits_form row forms.Short = names_nothing row.operand && nat_eq row.args 0 && leads_on row.leads
fits_form row forms.ScopeObject = names_a_scope row.operand && nat_eq row.args 0 && leads_on row.leads
fits_form row forms.Debug = nat_eq row.args 0 && leads_on row.leads

abbrev agrees_in : ℕ → Option Shape → Option OpInfo → Bool
agrees_in op None None = true
agrees_in op (Some row) None = false
agrees_in op None (Some info) = is_in op not_run
agrees_in op (Some row) (Some info) = fits_form row info.form && same_pool (pool_of_operand row.operand) info.pool

-- an instruction has a row whose operands are those of its form and pool, or is not run; what is no instruction has no row
unfoldable pub agrees : ℕ → Bool
agrees op = agrees_in op (row_at op) (info_at op)

abbrev is_left_out_in : Option Shape → Option OpInfo → Bool
is_left_out_in None (Some info) = true
is_left_out_in row info = false

-- an instruction without a row
unfoldable pub is_left_out : ℕ → Bool
is_left_out op = is_left_out_in (row_at op) (info_at op)
