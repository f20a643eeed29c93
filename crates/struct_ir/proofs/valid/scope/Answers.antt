use Rattle.std.proofs.Common.{◌≡◌, length, map, sym, ap, ◌∙◌, rules}
use Rattle.std.proofs.lemmas.List.{length-map}
use Rattle.c_tree.specs.TypedViews.{literal_view}
use Rattle.struct_ir.specs.Nodes.{Func}
use Rattle.struct_ir.specs.Views.{object_view, global_view, func_view}
use Rattle.struct_ir.specs.declared.code.IrFunc.{IrFunc}
use Rattle.struct_ir.proofs.Views.{params_view}
use Rattle.struct_ir.proofs.valid.scope.Goals as goal

pub returns : goal.returns
returns c =
    let objects : c.len.result ≡ length (map object_view c.args.f.now.objects.items) = (let e : c.len.result ≡ length c.args.f.now.objects.items = search rules in e) ∙ sym (length-map c.args.f.now.objects.items object_view) in
    let globals : c.len-2.result ≡ length (map global_view c.args.ir.now.globals.items) = (let e : c.len-2.result ≡ length c.args.ir.now.globals.items = search rules in e) ∙ sym (length-map c.args.ir.now.globals.items global_view) in
    let literals : c.len-3.result ≡ length (map literal_view c.args.ir.now.literals.items) = (let e : c.len-3.result ≡ length c.args.ir.now.literals.items = search rules in e) ∙ sym (length-map c.args.ir.now.literals.items literal_view) in
    let params : map (λ (f : IrFunc). f.params) c.deref.result.now ≡ map (λ (g : Func). g.params) (map func_view c.args.ir.now.funcs.items)
    = ap (map (λ (f : IrFunc). f.params)) c.deref.ensures.value ∙ sym (params_view c.args.ir.now.funcs.items) in
    λ i. record { temps = c.args.f.now.temps; slots = c.args.f.now.slots; objects = objects i; globals = globals i; literals = literals i; params = params i }
