pub mod FlatList
