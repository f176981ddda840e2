use Rattle.slot_store.proofs.ImageBytes.{full_from_image, image_from_full}
use Rattle.slot_store.proofs.laws.full_slots.Goals as goal

pub returns : goal.returns
returns c = λ lines slot bytes image size. (image_from_full lines slot bytes image size, full_from_image lines slot bytes image size)
