-- What the scene of a display's service stands for.
use Rattle.display_backend.specs.declared.scene.Scene.{Scene as Kept}
use Rattle.display_backend.specs.Scene.{Scene}

abbrev pub scene_of : Kept → Scene
scene_of s = record { frames = s.frames; connectors = s.connectors; part = s.part }
