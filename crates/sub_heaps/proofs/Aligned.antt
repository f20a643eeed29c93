-- Where all objects start at multiples of 16, the lowest fit is one too: else the multiple of 16 below it would fit as well.
use Rattle.std.proofs.Common.{◌≡◌, ℕ, ◌+◌, ◌-◌, ◌*◌, ◌/◌, ◌%◌, ◌<◌, ◌≢◌, sym, ◌∙◌, ap, inl, inr, arith}
use Rattle.std.proofs.lemmas.Nat.{mul-mod_second}
use Rattle.std.proofs.lemmas.List.Elements.{recursion_from_All, All-from_recursion}
use Rattle.sub_heaps.specs.declared.objects.Object.{Object}
use Rattle.sub_heaps.specs.ByPlace.{with_object, without}
use Rattle.sub_heaps.specs.SubHeaps.{SubHeaps, IsRounded, FitsAt, IsLowestFit, IsSound, IsAligned}
use Rattle.sub_heaps.proofs.Blocks.{place_parts, number_is}
use Rattle.sub_heaps.proofs.Standing.{Each-weaker, each_at, each_rounded}
use Rattle.sub_heaps.proofs.Edits.{Each-with_object, Each-without}

module _ (h : SubHeaps) (sound : IsSound h) where
  -- a sub-heap starts at a multiple of 16
  start_multiple : (k : ℕ) → (k * h.size) % 16 ≡ 0
  start_multiple k = sym (mul-mod_second k h.size 16) ∙ ap (λ n. (k * n) % 16) sound.shape.size_multiple ∙ zero_product k
    where
      zero_product : (k : ℕ) → (k * 0) % 16 ≡ 0
      zero_product k = omega arith

  fits_below : IsAligned h → (bytes at : ℕ) → FitsAt h bytes at → FitsAt h bytes (at - at % 16)
  fits_below aligned bytes at fits =
      let some : 0 < h.size = omega (arith, sound.shape.size_least) in
      let parts = place_parts h.size some at in
      let same : (at - at % 16) / h.size ≡ at / h.size = number_is h.size some (at / h.size) (at - at % 16) (omega (arith, parts, start_multiple (at / h.size))) (omega (arith, parts, fits.inside.1, start_multiple (at / h.size))) in
      let parts_below : at / h.size * h.size + (at - at % 16) % h.size ≡ at - at % 16 = rw same at (place_parts h.size some (at - at % 16)) in
      record {
        inside = (omega (arith, fits.inside.0), omega (arith, parts, parts_below, fits.inside.1));
        clear = λ k d within. elim (fits.clear k d within) [
          | inl beneath ↦ inl (omega (arith, beneath, aligned k d within, each_at (λ o. IsRounded o.size) h.objects k d (each_rounded h.count h.size 0 h.objects sound.stand) within))
          | inr over ↦ inr (omega (arith, over))
        ];
      }

  pub lowest_aligned : IsAligned h → (bytes at : ℕ) → IsLowestFit h bytes at → at % 16 ≡ 0
  lowest_aligned aligned bytes at is = omega (arith, is.lowest (at - at % 16) (fits_below aligned bytes at is.fits))

-- ---- what a call does to objects that start at multiples of 16

pub with_object_aligned : (h : SubHeaps) (new : Object) → new.at % 16 ≡ 0 → IsAligned h → IsAligned (record h { objects = with_object new h.objects })
with_object_aligned h new here aligned =
    All-from_recursion (λ o. o.at % 16 ≡ 0) (with_object new h.objects) (Each-with_object (λ o. o.at % 16 ≡ 0) new h.objects here (recursion_from_All (λ o. o.at % 16 ≡ 0) h.objects aligned))

pub without_aligned : (h : SubHeaps) (at : ℕ) → IsAligned h → IsAligned (record h { objects = without at h.objects })
without_aligned h at aligned =
    All-from_recursion (λ o. o.at % 16 ≡ 0) (without at h.objects) (Each-without (λ o. o.at % 16 ≡ 0) at h.objects (Each-weaker (λ o. o.at % 16 ≡ 0) (λ o. o.at ≢ at → o.at % 16 ≡ 0) (λ o is other. is) h.objects (recursion_from_All (λ o. o.at % 16 ≡ 0) h.objects aligned)))
