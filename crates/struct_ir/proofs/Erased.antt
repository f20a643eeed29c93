-- Looks and safepoints may be left out, with slots and lists.
use Rattle.std.proofs.Common.{◌≡◌, ℕ, Bool, true, false, refl, sym, ap, subst, ◌∙◌, ◌⊎◌, inl, inr}
use Rattle.struct_ir.specs.Nodes.{Act, set, call, step, look, safepoint, begin_object, end_object, plain, if_, loop, break_, next_, ret, Nodes, no_nodes, more_nodes}
use Rattle.struct_ir.specs.Structured.{Position, done, then_, in_body, in_latch, out_of, end_of, next, structured}
use Rattle.struct_ir.specs.Machine.{Machine, Point, goes, stopped_or, after_act}
use Rattle.struct_ir.specs.Maps.{Carries, Vanishes, IsMap}
use Rattle.struct_ir.specs.MapsTurns.{thread_mapped, IsMapped}
use Rattle.struct_ir.specs.Threads.{turn}
use Rattle.struct_ir.specs.Lists.{bare_act, listless}
use Rattle.struct_ir.specs.Erased.{is_kept, at_erased, LooksAreIdle, ErasureKeepsTurns}
use Rattle.struct_ir.proofs.Sizes.{structured_shrinks}
use Rattle.struct_ir.proofs.Lists.{lists_are_nothing, listless_shrinks}
use Rattle.struct_ir.proofs.MapsTurns.{maps_map_turns}

out_erased : (k : Position) → out_of (at_erased k) ≡ at_erased (out_of k)
out_erased done = refl
out_erased (then_ ns k) = out_erased k
out_erased (in_body b t k) = refl
out_erased (in_latch b t k) = refl

end_erased : (k : Position) → end_of (at_erased k) ≡ at_erased (end_of k)
end_erased done = refl
end_erased (then_ ns k) = end_erased k
end_erased (in_body b t k) = refl
end_erased (in_latch b t k) = refl

either : (c : Bool) (p t : ℕ) (a b rest : Nodes) (k : Position) → next (at_erased (then_ (more_nodes (if_ p t a b) rest) k)) c ≡ at_erased (next (then_ (more_nodes (if_ p t a b) rest) k) c)
either true p t a b rest k = refl
either false p t a b rest k = refl

-- a Look or a safepoint that is seen without its list is as idle
still_idle : (a : Act) → is_kept a ≡ false → bare_act a ≡ a
still_idle (set to calc) e = absurd cc
still_idle (call c) e = absurd cc
still_idle (step s) e = absurd cc
still_idle (look slot base) e = refl
still_idle (safepoint slots) e = refl
still_idle (begin_object i) e = absurd cc
still_idle (end_object i) e = absurd cc

module _ {L F : Type 0} (M : Machine L F) (idle : LooksAreIdle M) where
  plain_erased : (p : ℕ) (a : Act) (rest : Nodes) (k : Position) (b : Bool) → is_kept a ≡ b
      → Carries (listless structured) structured at_erased (then_ (more_nodes (plain p a) rest) k) ⊎ Vanishes (listless structured) M at_erased (then_ (more_nodes (plain p a) rest) k)
  plain_erased p a rest k true e = inl (record { here = rw e refl; next = λ c. rw e refl })
  plain_erased p a rest k false e =
      let i = idle a e in
      inr (record {
        idle = λ l.
            let at : Point Position L = record { at = then_ rest k; own = l } in
            let once : stopped_or (M.stops a) (after_act (then_ rest k) (M.does p a l)) ≡ goes at
            = ap (λ (s : Bool). stopped_or s (after_act (then_ rest k) (M.does p a l))) i.0 ∙ ap (after_act (then_ rest k)) (i.1 p l) in
            subst (λ (x : Act). stopped_or (M.stops x) (after_act (then_ rest k) (M.does p x l)) ≡ goes at) (sym (still_idle a e)) once;
        there = rw e refl;
      })

  pub is_map : IsMap (listless structured) structured M at_erased
  is_map done = inl (record { here = refl; next = λ c. refl })
  is_map (then_ no_nodes k) = inl (record { here = refl; next = λ c. refl })
  is_map (then_ (more_nodes (plain p a) rest) k) = plain_erased p a rest k (is_kept a) refl
  is_map (then_ (more_nodes (if_ p t a b) rest) k) = inl (record { here = refl; next = λ c. either c p t a b rest k })
  is_map (then_ (more_nodes (loop p b s) rest) k) = inl (record { here = refl; next = λ c. refl })
  is_map (then_ (more_nodes (break_ p) rest) k) = inl (record { here = refl; next = λ c. out_erased k })
  is_map (then_ (more_nodes (next_ p) rest) k) = inl (record { here = refl; next = λ c. end_erased k })
  is_map (then_ (more_nodes (ret p t) rest) k) = inl (record { here = refl; next = λ c. refl })
  is_map (in_body b t k) = inl (record { here = refl; next = λ c. refl })
  is_map (in_latch b t k) = inl (record { here = refl; next = λ c. refl })

pub erasure_keeps_turns : (L F S A : Type 0) → ErasureKeepsTurns L F S A
erasure_keeps_turns L F S A M W ignores idle code answer t s carry =
    subst (λ o. IsMapped (listless structured) structured at_erased o (turn structured M W (λ g. at_erased (code g)) answer (thread_mapped at_erased t) s))
    (lists_are_nothing Position L F S A structured M W ignores code answer t s)
    (maps_map_turns Position Position L F S A (listless structured) structured (listless_shrinks structured structured_shrinks) structured_shrinks M W at_erased (is_map M idle) code answer t s carry)
