use Rattle.std.proofs.Common.{◌≡◌, ℕ, ◌/◌, List, sym, ap, ◌∙◌, refl}
use Rattle.ak_words.specs.Bytes.{low_bytes}
use Rattle.ak_words.specs.Num.{num}
use Rattle.ak_words.specs.Wrapped.{bit_pattern}
use Rattle.ak_words.specs.declared.number.Num.{Num}
use Rattle.ak_words.proofs.Numbers.{num_is}
use Rattle.ak_words.proofs.Wraps.{wrapped_value-in_type}
use Rattle.c_tree.specs.TypedViews.{init_view}
use Rattle.flat_store.specs.Flat.{with_bytes}
use Rattle.flat_threads.specs.Contexts.{layout_of}
use Rattle.flat_meaning.specs.Image.{first_bytes}
use Rattle.flat_machine.proofs.loading.write_global.Goals.{in-Num, in-Literal}
use Rattle.flat_machine.proofs.loading.write_global.Goals as goal

num_value : (n : Num) → (num n.ty n.value).value ≡ n.value
num_value n = ap (λ (m : Num). m.value) (sym (num_is n n.ty n.value refl (sym (wrapped_value-in_type n.ty n.value n.in_range))))

pub returns : goal.returns
returns c =
    let old = c.args.arena.now in
    let x = layout_of c.args.program.now in
    let written : low_bytes c.match-global.bytes.0 c.match-global.bytes.1 ≡ first_bytes x (init_view c.args.global.now.init) =
    elim c.match-global.branch [
      | in-Num w ↦
          ap (λ (p : ℕ × ℕ). low_bytes p.0 p.1) w.bytes-is
          ∙ ap (low_bytes (w.in-Num.n.ty.bits / 8)) (w.to_bits.ensures.value ∙ ap (bit_pattern w.in-Num.n.ty) (sym (num_value w.in-Num.n)))
          ∙ ap (λ init. first_bytes x (init_view init)) (sym w.in-Num.is)
      | in-Literal w ↦
          ap (λ (p : ℕ × ℕ). low_bytes p.0 p.1) w.bytes-is
          ∙ ap (low_bytes 8) w.literal_start.ensures
          ∙ ap (λ init. first_bytes x (init_view init)) (sym w.in-Literal.is)
    ] in
    c.in-Ok.ensures.stored ∙ ap (λ (bs : List ℕ). record old { bytes = with_bytes old.bytes c.args.at bs }) written
