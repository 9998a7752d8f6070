pub mod RoomLaws
pub mod PassingLaws
pub mod RoomIsFact
