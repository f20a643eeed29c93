-- Which linear code is valid: the numbers of each instruction are in range. Where jumps and rounds lead, lawful code says; how many
-- registers and how much of a stack a thread may take are limits of the machine, which end a run and refuse no code.
use Rattle.std.specs.Prelude.{◌≡◌, ℕ, Bool, true, nat_lt, List, length, map, Some, slice_get}
use Rattle.std.specs.List.{list_all}
use Rattle.struct_ir.specs.Nodes.{Func, Ir}
use Rattle.struct_ir.specs.Flow.{Here, does, tests, passes, round, returns, Path}
use Rattle.struct_ir.specs.Structured.{Position, done, then_, structured}
use Rattle.struct_ir.specs.Instrs.{Instr, acts, unless, jump, round_to, leave, LinearFunc, LinearCode}
use Rattle.struct_ir.specs.Linear.{Spot, linear, entry_of}
use Rattle.struct_ir.specs.Valid.{Scope, is_below_if, is_act, scope_of, is_valid}

-- what a function's instructions may name
abbrev pub code_scope_of : LinearCode → LinearFunc → Scope
code_scope_of p f = record { temps = f.temps; slots = f.slots; objects = length f.objects; globals = length p.globals; literals = length p.literals; params = map (λ g. g.params) p.funcs }

-- an act in range; a test, and a return of a register in range; a jump, and the end of a round
abbrev pub is_instr : Scope → Instr → Bool
is_instr x (acts place a) = is_act x a
is_instr x (unless place temp to) = nat_lt temp x.temps
is_instr x (jump place to) = true
is_instr x (round_to place to) = true
is_instr x (leave place temp) = is_below_if x.temps temp

-- each instruction of each function
abbrev pub is_valid_code : LinearCode → Bool
is_valid_code p = list_all (λ f. list_all (is_instr (code_scope_of p f)) f.instrs) p.funcs

-- ---- what calls come to

-- what stands at a position, in range
abbrev pub is_here : Scope → Here → Bool
is_here x (does place a) = is_act x a
is_here x (tests place temp) = nat_lt temp x.temps
is_here x passes = true
is_here x round = true
is_here x (returns temp) = is_below_if x.temps temp

-- in valid structured code what stands at each position to which a path comes is in range
abbrev pub ValidIsReached : Type 0
ValidIsReached =
    (p : Ir) → is_valid p ≡ true → (n : ℕ) (f : Func) → slice_get p.funcs n ≡ Some f → (w : List Position) (k : Position) → Path structured (then_ f.nodes done) w k → is_here (scope_of p f) (structured.here k) ≡ true

-- and in valid linear code
abbrev pub ValidCodeIsReached : Type 0
ValidCodeIsReached =
    (p : LinearCode) → is_valid_code p ≡ true → (n : ℕ) (f : LinearFunc) → slice_get p.funcs n ≡ Some f → (w : List Spot) (k : Spot) → Path (linear p.funcs) (entry_of n) w k → is_here (code_scope_of p f) ((linear p.funcs).here k) ≡ true
