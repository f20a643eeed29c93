use Rattle.struct_ir.specs.Views.{place_view}
use Rattle.code_file.specs.Actions.{place}
use Rattle.code_save.specs.inner.Fits.{place_fits}
use Rattle.code_save.proofs.Writing.{first_writes, next_writes, all_wrote, tested_wrote}
use Rattle.code_save.proofs.actions.put_places.Goals as goal

pub loop-place-init : goal.loop-place-init
loop-place-init c = first_writes (place) (place_view) (λ x. place_fits (place_view x)) c.args.places.now c.in_ok-put_count.ensures

pub loop-place-preserved : goal.loop-place-preserved
loop-place-preserved c = next_writes (place) (place_view) (λ x. place_fits (place_view x)) c.args.places.now c.loop-place.place-index _ c.loop-place-test.true (c.in_ok-put_place.ensures) c.loop-place.invariant

pub returns : goal.returns
returns c = tested_wrote place place_view place_fits c.args.places.now (all_wrote (place) (place_view) (λ x. place_fits (place_view x)) c.args.places.now c.loop-place.place-index c.loop-place-test.false c.loop-place.invariant)
