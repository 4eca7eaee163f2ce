use Rattle.connectors.proofs.Pictures.{picture_shown}
use Rattle.connectors.proofs.laws.pictures_inside.Goals as goal

pub returns : goal.returns
returns c live k p sound shows = picture_shown live k.rectangle k.shown p sound.has_pixels sound.shown shows
