-- Grades and refusals as text, byte for byte. Assumes nothing.
use Rattle.std.specs.Prelude.{ℕ, cond, List, [], ◌++◌, codes, decimal, ◌==◌}
use Rattle.grade.specs.declared.slots.Slots.{Slots}
use Rattle.grade.specs.declared.class.Class.{Class}
use Rattle.grade.specs.declared.refusal.Refusal.{Refusal}
use Rattle.grade.specs.declared.refusal.Refusal.TheVariants.{NotLawful, MemoryTooShort, BridgeOutOfRange, SameBridge, NoRoute, PairStands, PairAbsent, NoFreeSlot, SurveyOverflows, SilentBridge, WrongFar, NotARoute, WiderRouteExists, WrongSurveyShape, BrokenChains, WrongGrade, WrongSize, WrongScriptLine}
use Rattle.grade.specs.Kinds.{slots_of, class_of, class_slots_of}
use Rattle.grade.specs.Told.{refusal}

abbrev pub slots_text : Slots → List ℕ
slots_text s = decimal (slots_of s) ++ codes " slots"

abbrev pub class_text : Class → List ℕ
class_text g = codes "class " ++ (decimal (class_of g) ++ (codes ", " ++ (decimal (class_slots_of g) ++ codes " slots")))

abbrev pub places_line : ℕ → ℕ → List ℕ
places_line bridge position = codes ", bridge " ++ (decimal bridge ++ (codes ", line " ++ decimal position))

-- the places of a refusal, by what they are
abbrev pub places_text : Refusal → List ℕ
places_text NotLawful = []
places_text MemoryTooShort = []
places_text BridgeOutOfRange = []
places_text SameBridge = []
places_text NoRoute = []
places_text PairStands = []
places_text PairAbsent = []
places_text NoFreeSlot = []
places_text (SurveyOverflows bridge position) = places_line bridge position
places_text (SilentBridge bridge cause) = codes ", bridge " ++ (decimal bridge ++ (codes ", cause " ++ decimal cause))
places_text (WrongFar bridge position) = places_line bridge position
places_text NotARoute = []
places_text WiderRouteExists = []
places_text WrongSurveyShape = []
places_text (BrokenChains record') = codes ", record " ++ decimal record'
places_text (WrongGrade record') = cond (record' == 0) [] (codes ", record " ++ decimal record')
places_text WrongSize = []
places_text (WrongScriptLine place) = []

-- a refusal's number, and its places
abbrev pub refusal_text : Refusal → List ℕ
refusal_text r = codes "refused " ++ (decimal (refusal r).0 ++ places_text r)
