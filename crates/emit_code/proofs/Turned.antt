-- The code is written from its end.
use Rattle.std.proofs.Common.{◌≡◌, ℕ, ◌+◌, List, [], ◌∷◌, ◌++◌, map, reverse, None, refl, sym, ap, ◌∙◌, arith}
use Rattle.std.proofs.lemmas.List.{reverse-append, reverse-reverse, map-append}
use Rattle.struct_ir.specs.declared.linear.Instr.{Instr as CodeInstr}
use Rattle.struct_ir.specs.Instrs.{leave}
use Rattle.struct_ir.specs.InstrViews.{instr_view}
use Rattle.struct_ir.specs.Nodes.{Nodes}
use Rattle.emit_code.specs.inner.Layout.{long, emit, instrs_for}

map_reverse : (xs : List CodeInstr) → map instr_view (reverse xs) ≡ reverse (map instr_view xs)
map_reverse [] = refl
map_reverse (x ∷ xs) =
    ap (λ l. map instr_view l) (reverse-append (x ∷ []) xs)
    ∙ map-append instr_view (reverse xs) (x ∷ [])
    ∙ ap (λ l. l ++ instr_view x ∷ []) (map_reverse xs)
    ∙ sym (reverse-append (instr_view x ∷ []) (map instr_view xs))

pub turned : (c0 c1 c2 : List CodeInstr) (nodes : Nodes) (at end : ℕ) → map instr_view c0 ≡ leave 0 None ∷ [] → map instr_view c1 ≡ map instr_view c0 ++ reverse (emit at end end nodes) → c2 ≡ reverse c1 → end ≡ long nodes → at + long nodes ≡ end → map instr_view c2 ≡ instrs_for nodes
turned c0 c1 c2 nodes at end e0 e1 e2 l p =
    let z : at ≡ 0 = omega (arith, l, p) in
    let e = emit at end end nodes in
    ap (λ c. map instr_view c) e2
    ∙ map_reverse c1
    ∙ ap (λ c. reverse c) (e1 ∙ ap (λ c. c ++ reverse e) e0)
    ∙ reverse-append (leave 0 None ∷ []) (reverse e)
    ∙ ap (λ c. c ++ leave 0 None ∷ []) (reverse-reverse e)
    ∙ ap (λ n. emit n end end nodes ++ leave 0 None ∷ []) z
    ∙ ap (λ n. emit 0 n n nodes ++ leave 0 None ∷ []) l
