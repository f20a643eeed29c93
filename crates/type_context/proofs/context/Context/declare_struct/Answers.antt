use Rattle.std.proofs.Common.{◌≡◌, ℕ, List, map, set, ap, ◌∙◌}
use Rattle.std.proofs.lemmas.List.{map-set}
use Rattle.c_tree.specs.Typed.{Ty, Layout}
use Rattle.c_tree.specs.TypedLayout.{laid_out}
use Rattle.c_tree.specs.TypedViews.{type_view, layout_view}
use Rattle.type_context.specs.ContextViews.{context_view, bytes_view, members_view}
use Rattle.type_context.proofs.context.Context.declare_struct.Goals as goal

pub returns-clause-after : goal.returns-clause-after
returns-clause-after c =
    let s = c.args.self.now in
    let n = c.args.number in
    let all = members_view c.args.all.items in
    let laid : layout_view c.in_ok-layout.layout ≡ laid_out (map layout_view s.structs.items) (map (λ (m : List ℕ × Ty). m.1) all) =
    c.in_ok-layout.ensures.laid ∙ ap (λ l. laid_out (map layout_view l) (map type_view c.in_ok-names.types.items)) c.deref.ensures.value ∙ ap (laid_out (map layout_view s.structs.items)) c.in_ok-names.ensures.types in
    let structs : map layout_view c.put.new.all.items ≡ set (map layout_view s.structs.items) n (laid_out (map layout_view s.structs.items) (map (λ (m : List ℕ × Ty). m.1) all)) =
    ap (map layout_view) c.put.ensures ∙ map-set layout_view s.structs.items n c.in_ok-layout.layout ∙ ap (set (map layout_view s.structs.items) n) laid in
    let members : map (λ m. bytes_view m.items) c.put-2.new.all.items ≡ set (map (λ m. bytes_view m.items) s.members.items) n (map (λ (m : List ℕ × Ty). m.0) all) =
    ap (map (λ m. bytes_view m.items)) c.put-2.ensures ∙ map-set (λ m. bytes_view m.items) s.members.items n c.in_ok-names.names ∙ ap (set (map (λ m. bytes_view m.items) s.members.items) n) c.in_ok-names.ensures.names in
    ap (λ (ls : List Layout). record (context_view s) { structs = ls; members = map (λ m. bytes_view m.items) c.put-2.new.all.items }) structs
    ∙ ap (λ (ms : List (List (List ℕ))). record (context_view s) { structs = set (map layout_view s.structs.items) n (laid_out (map layout_view s.structs.items) (map (λ (m : List ℕ × Ty). m.1) all)); members = ms }) members
