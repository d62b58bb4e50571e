-- The parts of the invariant of one lane. Each part names what it reads: the packets and draws, the outstanding command
-- (waits), what the unit keeps (keeps), the floors (down, up), and the place and since of the lane.
use Rattle.std.proofs.Common.{◌≡◌, ◌≢◌, ℕ, ◌+◌, ◌*◌, ◌<◌, ◌≤◌, Bool, true, false, List, length, Option, Some, slice_get, ◌⊎◌}
use Rattle.omci_types.specs.declared.Priority.{Priority}
use Rattle.history_spec.specs.History.{Entry, WasCarried, LastReply, Once, Answered}
use Rattle.link_spec.specs.declared.TheConstants.{WINDOW}
use Rattle.moves_spec.specs.Channel.{Transaction, place_number, LinkPacket, RequestOf, ReplyTo, KeptReply, Outstanding, Channel, View, lane_view}
use Rattle.omci_types.specs.declared.Priority.TheVariants.{Low, High}

abbrev pub Asks : Priority → List LinkPacket → ℕ → Transaction → Type 0
Asks l packets i c = slice_get packets i ≡ Some (RequestOf l c)

abbrev pub Replies : Priority → List LinkPacket → ℕ → Transaction → List ℕ → Type 0
Replies l packets j c r = slice_get packets j ≡ Some (ReplyTo l c r)

-- the command of this id was drawn in this lane
abbrev pub Owner : Priority → List Priority → ℕ → Type 0
Owner l draws id = slice_get draws id ≡ Some l

-- the first command is the second or was drawn before it
pub record Before (c d : Transaction) : Type 0 where
  pub le : c.id ≤ d.id
  pub same : c.id ≡ d.id → c ≡ d

-- requests stand in the order in which their commands were drawn
pub record OrderPart (l : Priority) (packets : List LinkPacket) (draws : List Priority)
    (waits : Option Outstanding) : Type 0 where
  pub sorted : (i j : ℕ) (c d : Transaction) → Asks l packets i c → Asks l packets j d → i ≤ j
      → Before c d
  pub owner : (i : ℕ) (c : Transaction) → Asks l packets i c → Owner l draws c.id
  pub newest : (i : ℕ) (c : Transaction) (o : Outstanding) → Asks l packets i c → waits ≡ Some o
      → Before c o.transaction
  pub waiting_owner : (o : Outstanding) → waits ≡ Some o → Owner l draws o.transaction.id

-- what the unit keeps is of the newest command that it carried out in this life, and no older one may come
pub record HeldPart (l : Priority) (packets : List LinkPacket) (draws : List Priority) (now : ℕ)
    (history : List Entry) (down : ℕ)
    (keeps : Option KeptReply) (waits : Option Outstanding) : Type 0 where
  pub below : (k : KeptReply) (i : ℕ) (c : Transaction) → keeps ≡ Some k → Asks l packets i c
      → down ≤ i → Before k.transaction c
  pub newest : (k : KeptReply) (o : Outstanding) → keeps ≡ Some k → waits ≡ Some o
      → Before k.transaction o.transaction
  pub fresh : (k : KeptReply) → keeps ≡ Some k → k.transaction.id < length draws
  pub made : (k : KeptReply) → keeps ≡ Some k → WasCarried now k.transaction.id history
  pub carried : (id : ℕ) → WasCarried now id history → Owner l draws id
      → (k : KeptReply) × (keeps ≡ Some k) × (id ≤ k.transaction.id)
  pub past : (life id : ℕ) → WasCarried life id history → life ≤ now
  pub known : (life id : ℕ) → WasCarried life id history → id < length draws

-- a packet of a command that has ended lies far back, since each later command cost two packets
pub record Past (place since i : ℕ) (c : Transaction) (more : ℕ) : Type 0 where
  pub ended : c.place < place
  pub far : i + 2 * place ≤ since + 1 + more + 2 * c.place

-- a packet of the outstanding command was sent after it was drawn
pub record Own (waits : Option Outstanding) (since i : ℕ) (c : Transaction)
    (more : ℕ) : Type 0 where
  pub outstanding : Outstanding
  pub is : waits ≡ Some outstanding
  pub same : c ≡ outstanding.transaction
  pub from : since + more ≤ i

abbrev pub Placed : Option Outstanding → ℕ → ℕ → ℕ → Transaction → ℕ → ℕ → Type 0
Placed waits place since i c more own_more =
    Past place since i c more ⊎ Own waits since i c own_more

-- where a lane's packets may stand: a reply is as far back as its request may be when it comes
pub record PlacesPart (l : Priority) (packets : List LinkPacket) (down up : ℕ)
    (waits : Option Outstanding) (place since : ℕ) : Type 0 where
  pub begun : since ≤ length packets
  pub shape : (o : Outstanding) → waits ≡ Some o → o.transaction.place ≡ place
  pub cost : (o : Outstanding) → waits ≡ Some o → since + o.sent ≤ length packets
  pub requests : (i : ℕ) (c : Transaction) → Asks l packets i c → down ≤ i
      → Placed waits place since i c 0 0
  pub replies : (j : ℕ) (c : Transaction) (r : List ℕ) → Replies l packets j c r → up ≤ j
      → Placed waits place since j c WINDOW 1

-- no request that may come is older than a reply that may come
pub record RepliesPart (l : Priority) (packets : List LinkPacket) (draws : List Priority)
    (down up : ℕ) (waits : Option Outstanding) : Type 0 where
  pub below : (j i : ℕ) (d c : Transaction) (r : List ℕ) → Replies l packets j d r → up ≤ j
      → Asks l packets i c → down ≤ i → Before d c
  pub newest : (j : ℕ) (d : Transaction) (r : List ℕ) (o : Outstanding) → Replies l packets j d r
      → up ≤ j → waits ≡ Some o → Before d o.transaction
  pub fresh : (j : ℕ) (d : Transaction) (r : List ℕ) → Replies l packets j d r → up ≤ j
      → d.id < length draws

-- the kept number isn't the lane's, or it is that of the outstanding command
abbrev pub Apart : Option Outstanding → ℕ → KeptReply → Type 0
Apart waits place k = (place_number k.transaction.place ≢ place_number place) ⊎
    ((o : Outstanding) × (waits ≡ Some o) × (k.transaction ≡ o.transaction))

-- the request is the outstanding command's, or it is answered by what is kept
abbrev pub Harmless : Option Outstanding → Option KeptReply → Transaction → Type 0
Harmless waits keeps c = ((o : Outstanding) × (waits ≡ Some o) × (c ≡ o.transaction))
    ⊎ ((k : KeptReply) × (keeps ≡ Some k) ×
    (place_number k.transaction.place ≡ place_number c.place))

-- where the lane is proved, what the unit keeps doesn't answer a new command
pub record ProvedPart (l : Priority) (packets : List LinkPacket) (history : List Entry)
    (down up : ℕ) (keeps : Option KeptReply)
    (is_proved : Bool) (place : ℕ) (waits : Option Outstanding) : Type 0 where
  pub unproven : (o : Outstanding) → is_proved ≡ false → waits ≡ Some o → o.transaction.probe ≡ true
  pub kept : (k : KeptReply) → is_proved ≡ true → keeps ≡ Some k → Apart waits place k
  pub quiet : (i : ℕ) (c : Transaction) → is_proved ≡ true → Asks l packets i c → down ≤ i
      → Harmless waits keeps c
  pub answered : (o : Outstanding) (j : ℕ) (r : List ℕ) → waits ≡ Some o
      → Replies l packets j o.transaction r → up ≤ j
      → (k : KeptReply) × (keeps ≡ Some k) × (place_number k.transaction.place ≡ place_number place)
  pub reply : (o : Outstanding) (j : ℕ) (r : List ℕ) → waits ≡ Some o → o.transaction.probe ≡ false
      → Replies l packets j o.transaction r → up ≤ j
      → LastReply o.transaction.id r history
  pub kept_reply : (o : Outstanding) (k : KeptReply) → waits ≡ Some o → o.transaction.probe ≡ false
      → keeps ≡ Some k → k.transaction ≡ o.transaction
      → LastReply o.transaction.id k.reply history

abbrev pub OrderIn : Priority → View → Type 0
OrderIn l v = OrderPart l v.shared.packets v.shared.draws v.lane.outstanding

abbrev pub HeldIn : Priority → View → Type 0
HeldIn l v =
    HeldPart l v.shared.packets v.shared.draws v.shared.life v.shared.history v.lane.floor_down v.lane.kept v.lane.outstanding

abbrev pub PlacesIn : Priority → View → Type 0
PlacesIn l v =
    PlacesPart l v.shared.packets v.lane.floor_down v.lane.floor_up v.lane.outstanding v.lane.place v.lane.since

abbrev pub RepliesIn : Priority → View → Type 0
RepliesIn l v =
    RepliesPart l v.shared.packets v.shared.draws v.lane.floor_down v.lane.floor_up v.lane.outstanding

abbrev pub ProvedIn : Priority → View → Type 0
ProvedIn l v =
    ProvedPart l v.shared.packets v.shared.history v.lane.floor_down v.lane.floor_up v.lane.kept v.lane.proved v.lane.place v.lane.outstanding

-- the parts together
pub record SoundLane (l : Priority) (v : View) : Type 0 where
  pub order : OrderIn l v
  pub held : HeldIn l v
  pub places : PlacesIn l v
  pub replies : RepliesIn l v
  pub proved : ProvedIn l v

-- and of both lanes, with the two laws
pub record SoundChannel (w : Channel) : Type 0 where
  pub low : SoundLane Low (lane_view Low w)
  pub high : SoundLane High (lane_view High w)
  pub once : Once w.shared.history
  pub answered : Answered w.shared.history
